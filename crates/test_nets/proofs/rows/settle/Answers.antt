use Rattle.test_nets.proofs.Upcalls.{settles}
use Rattle.test_nets.proofs.rows.settle.Goals as goal

pub settle-requires : goal.settle-requires
settle-requires g c = let i = c.requires in
    record { stands = (i.terms, i.first, i.history, i.stands, i.fits) }

pub returns : goal.returns
returns g c =
    let i = c.requires in
    settles _ _ _ _ _ _ _ i (c.settle.ensures.stands i.terms i.first i.history i.stands i.fits)
