use Rattle.std.proofs.Common.{◌≡◌, ◌-◌, length, false, ap, sym, ◌∙◌, arith}
use Rattle.timer_queue.specs.Timers.{in_order, is_scheduled, without_timer}
use Rattle.timer_queue.proofs.Schedules.{without_timer-fresh}
use Rattle.timer_queue.proofs.Contents.{in_order-removed, was_scheduled}
use Rattle.timer_wheel.specs.Spokes.{timers_of}
use Rattle.timer_wheel.proofs.Firsts.{fewer_places}
use Rattle.timer_wheel.proofs.Kept.{kept_removed, led_nowhere, unlisted}
use Rattle.timer_wheel.proofs.wheel.WheelTimersTimerQueue.cancel.Goals as goal

absent : (g : _) (c : goal.In_default g)
    → is_scheduled c.args.timer (in_order (timers_of c.args.self.now.places)) ≡ false
absent g c =
    let s = c.self.inside in
    sym (ap (λ q. is_scheduled c.args.timer (in_order (timers_of q.places))) c.self.view_is)
    ∙ unlisted s.index.items (timers_of s.chains.places.items) c.args.timer c.self.invariant.covers
    (rw c.deref.ensures.value at c.in_default.ensures)

pub returns-in_default-clause-found : goal.returns-in_default-clause-found
returns-in_default-clause-found g c = sym (absent g c)

pub returns-in_default-clause-timers : goal.returns-in_default-clause-timers
returns-in_default-clause-timers g c =
    sym (without_timer-fresh c.args.timer (in_order (timers_of c.args.self.now.places))
    (absent g c))

led_away : (g : _) (c : goal.In_default-find g)
    → is_scheduled c.args.timer (in_order (timers_of c.args.self.now.places)) ≡ false
led_away g c =
    let s = c.self.inside in
    sym (ap (λ q. is_scheduled c.args.timer (in_order (timers_of q.places))) c.self.view_is)
    ∙ led_nowhere s.index.items (timers_of s.chains.places.items) c.args.timer
    c.self.invariant.covers
    c.in-Some.entry c.in-Some.ensures.0 (rw c.deref.ensures.value at c.in-Some.ensures.1)
    c.in_default-find.ensures.none

pub returns-in_default-find-clause-found : goal.returns-in_default-find-clause-found
returns-in_default-find-clause-found g c = sym (led_away g c)

pub returns-in_default-find-clause-timers : goal.returns-in_default-find-clause-timers
returns-in_default-find-clause-timers g c =
    sym (without_timer-fresh c.args.timer (in_order (timers_of c.args.self.now.places))
    (led_away g c))

pub invariant_of-self : goal.invariant_of-self
invariant_of-self g c =
    let s = c.self.inside in
    kept_removed g.row.SPOKES s.chains.resolution _ s.chains.heads.items
    c.remove.new.chains.heads.items s.chains.places.items
    c.remove.new.chains.places.items s.first c.remove.new.first s.index.items s.room _ _ _
    c.in-Some-find.t c.self.invariant c.remove.ensures.wheel c.remove.ensures.timers
    c.remove.ensures.shape.ticks c.remove.ensures.shape.capacity

-- the timer that was taken out has the number
number : (g : _) (c : goal.After-remove g) → c.in-Some-find.t.timer ≡ c.args.timer
number g c = c.in-Some-find.ensures.number ∙ c.in-Some.ensures.0

pub returns-clause-found : goal.returns-clause-found
returns-clause-found g c =
    let places = c.self.inside.chains.places.items in
    sym (ap (λ n. is_scheduled n (in_order (timers_of places))) (sym (number g c))
    ∙ was_scheduled c.in-Some-find.t (timers_of places) (timers_of c.remove.new.chains.places.items)
    c.self.invariant.wheel.apart c.remove.ensures.timers)
    ∙ ap (λ q. is_scheduled c.args.timer (in_order (timers_of q.places))) c.self.view_is

pub returns-clause-timers : goal.returns-clause-timers
returns-clause-timers g c =
    let places = c.self.inside.chains.places.items in
    in_order-removed c.in-Some-find.t (timers_of places) (timers_of
    c.remove.new.chains.places.items)
    c.self.invariant.wheel.apart c.remove.ensures.timers
    ∙ ap (λ n. without_timer n (in_order (timers_of places))) (number g c)
    ∙ ap (λ q. without_timer c.args.timer (in_order (timers_of q.places))) c.self.view_is

pub returns-clause-spare : goal.returns-clause-spare
returns-clause-spare g c =
    let spare : c.self.inside.room - length c.self.inside.chains.places.items
    ≡ c.args.self.now.spare =
    ap (λ q. q.spare) c.self.view_is in
    omega (
      arith,
      fewer_places c.in-Some-find.t c.self.inside.chains.places.items
          c.remove.new.chains.places.items
          c.self.invariant.wheel.apart c.remove.ensures.timers,
      c.self.invariant.fits,
    )
