use Rattle.test_nets.proofs.TwoOut.{settles_one}
use Rattle.test_nets.proofs.rows.settle_one.Goals as goal

pub settle-requires : goal.settle-requires
settle-requires g c = let i = c.requires in
    record { stands = (i.terms, i.first, i.history, i.stands, i.fits) }

pub returns : goal.returns
returns g c =
    let i = c.requires in
    settles_one _ _ _ _ _ _ _ _ i c.settled_later.ensures
    (c.settle.ensures.stands i.terms i.first i.history i.stands i.fits)
