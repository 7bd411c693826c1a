use Rattle.test_nets.proofs.Upcalls.{out_cancels}
use Rattle.test_nets.proofs.rows.cancel_meanwhile.Goals as goal

pub returns : goal.returns
returns g c = out_cancels _ _ _ _ c.cancel.result c.requires c.settled_later.ensures
    c.cancel.ensures.ok c.cancel.ensures.err
