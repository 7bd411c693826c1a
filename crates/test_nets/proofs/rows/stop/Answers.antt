use Rattle.std.specs.Prelude.{refl}
use Rattle.core_loop.proofs.Idling.{stopped, over_stopped}
use Rattle.test_nets.proofs.rows.stop.Goals as goal

pub returns-clause-idle : goal.returns-clause-idle
returns-clause-idle g c =
    let i = c.requires in
    let over = stopped _ _ i _ refl (c.stop.ensures.stands i.terms i.first i.history i.stands) in
    over.idle

pub returns-clause-over : goal.returns-clause-over
returns-clause-over g c =
    let i = c.requires in
    over_stopped _ (stopped _ _ i _ refl (c.stop.ensures.stands i.terms i.first i.history i.stands))
