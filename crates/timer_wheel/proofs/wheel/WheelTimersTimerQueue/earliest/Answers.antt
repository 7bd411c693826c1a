use Rattle.std.proofs.Common.{◌≡◌, true, subst}
use Rattle.timer_queue.specs.Timers.{in_order, is_rising, names_once}
use Rattle.timer_queue.proofs.Members.{schedule_in_order}
use Rattle.timer_wheel.specs.Spokes.{timers_of}
use Rattle.timer_wheel.proofs.wheel.WheelTimersTimerQueue.earliest.Goals as goal

pub returns-clause-rising : goal.returns-clause-rising
returns-clause-rising g c = subst (λ q. is_rising (in_order (timers_of q.places)) ≡ true)
    c.self.view_is (schedule_in_order (timers_of c.self.inside.chains.places.items)
    c.self.invariant.wheel.apart).rising

pub returns-clause-once : goal.returns-clause-once
returns-clause-once g c = subst (λ q. names_once (in_order (timers_of q.places)) ≡ true)
    c.self.view_is (schedule_in_order (timers_of c.self.inside.chains.places.items)
    c.self.invariant.wheel.apart).once
