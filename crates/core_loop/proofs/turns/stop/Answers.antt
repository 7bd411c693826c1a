use Rattle.std.specs.Prelude.{refl}
use Rattle.core_loop.proofs.Idling.{stopped, over_stopped}
use Rattle.core_loop.proofs.turns.stop.Goals as goal

pub returns-clause-stopped : goal.returns-clause-stopped
returns-clause-stopped g c =
    let i = c.requires in
    over_stopped _ (stopped _ _ i _ refl (c.stop.ensures.stands i.terms i.first i.history i.stands))
