use Rattle.std.proofs.Common.{not, ◌==◌}
use Rattle.reactor_state.proofs.Owners.{armed_kept, turned}
use Rattle.reactor_state.proofs.armed.Armed.disarm.Goals as goal

pub returns-clause-armed : goal.returns-clause-armed
returns-clause-armed g c armed has =
    armed_kept g.Q.TimerQueue.timers c.args.self.now
    (record { timers = c.cancel.new.self; owners = c.take_out.new.owners }) armed
    (λ t x. not (t == c.args.timer)) has c.cancel.ensures.timers
    (λ hi rising. turned c.args.timer c.args.self.now.owners.items c.take_out.new.owners.items
    (c.take_out.ensures.items hi rising))
