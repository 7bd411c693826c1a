use Rattle.test_nets.proofs.Upcalls.{out_removes}
use Rattle.test_nets.proofs.rows.remove_meanwhile.Goals as goal

pub remove-requires : goal.remove-requires
remove-requires g c = let i = c.requires in
    record { stands = (i.terms, i.first, i.history, i.stands) }

pub returns : goal.returns
returns g c = out_removes _ _ _ _ c.remove.result c.requires c.settled_later.ensures
    c.remove.ensures.ok c.remove.ensures.err
