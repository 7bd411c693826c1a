use Rattle.std.proofs.Common.{not, ◌==◌}
use Rattle.reactor_state.proofs.Owners.{armed_kept}
use Rattle.reactor_state.proofs.armed.Armed.disarm_all.Goals as goal

pub returns-clause-armed : goal.returns-clause-armed
returns-clause-armed g c armed has =
    armed_kept g.Q.TimerQueue.timers c.args.self.now
    (record { timers = c.cancel_all.new.self; owners = c.take_all.new.owners }) armed
    (λ t x. not (x == c.args.handle.0)) has c.cancel_all.ensures.timers
    (λ hi rising. c.take_all.ensures.items)
