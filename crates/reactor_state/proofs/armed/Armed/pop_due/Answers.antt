use Rattle.reactor_state.proofs.Owners.{armed_popped, none_reached, turned}
use Rattle.reactor_state.proofs.armed.Armed.pop_due.Goals as goal

pub returns-in-None-clause-none : goal.returns-in-None-clause-none
returns-in-None-clause-none g c armed has =
    none_reached c.args.now (g.Q.TimerQueue.timers c.args.self.now.timers) armed has.timers_are
    c.in-None.ensures.none

pub returns-in-Some-clause-due : goal.returns-in-Some-clause-due
returns-in-Some-clause-due g c armed has once =
    armed_popped g.Q.TimerQueue.timers c.args.self.now
    (record { timers = c.pop_due.new.self; owners = c.take_out.new.owners }) armed c.in-Some.t
    has once c.in-Some.ensures.taken
    (λ hi rising. turned c.in-Some.t.timer c.args.self.now.owners.items c.take_out.new.owners.items
    (c.take_out.ensures.items hi rising))
