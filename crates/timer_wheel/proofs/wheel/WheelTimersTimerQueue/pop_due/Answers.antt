use Rattle.std.proofs.Common.{◌≡◌, ◌<◌, ◌-◌, ◌∷◌, List, length, ap, sym, ◌∙◌, subst, arith}
use Rattle.std.specs.List.{All}
use Rattle.timer_queue.specs.declared.timer.Timer.{Timer}
use Rattle.timer_queue.specs.Timers.{in_order, IsSchedule}
use Rattle.timer_queue.proofs.Members.{among_at, members_in_order, schedule_in_order}
use Rattle.timer_wheel.specs.Spokes.{timers_of}
use Rattle.timer_queue.proofs.Contents.{in_order-removed}
use Rattle.timer_wheel.proofs.Firsts.{none_reached, first_among, first_taken, fewer_places}
use Rattle.timer_wheel.proofs.Kept.{kept_removed}
use Rattle.timer_wheel.proofs.wheel.WheelTimersTimerQueue.pop_due.Goals as goal

pub returns-then-now-t-clause-none : goal.returns-then-now-t-clause-none
returns-then-now-t-clause-none g c =
    let timers : List Timer = in_order (timers_of c.self.inside.chains.places.items) in
    let sched : IsSchedule timers = schedule_in_order (timers_of c.self.inside.chains.places.items)
    c.self.invariant.wheel.apart in
    subst (λ q. All (λ u. c.args.now < u.deadline) (in_order (timers_of q.places))) c.self.view_is
    (none_reached c.args.now c.in_ok-t.t timers sched.rising
    (sym c.self.invariant.wheel.earliest ∙ c.in_ok-t.was) c.if-now-t.true)

pub remove-requires-clause-there : goal.remove-requires-clause-there
remove-requires-clause-there g c =
    let places = c.self.inside.chains.places.items in
    among_at c.in_ok-t.t (timers_of places)
    ((members_in_order (timers_of places)).back c.in_ok-t.t
    (first_among c.in_ok-t.t (in_order (timers_of places))
    (sym c.self.invariant.wheel.earliest ∙ c.in_ok-t.was)))

pub invariant_of-self : goal.invariant_of-self
invariant_of-self g c =
    let s = c.self.inside in
    kept_removed g.row.SPOKES s.chains.resolution _ s.chains.heads.items
    c.remove.new.chains.heads.items s.chains.places.items
    c.remove.new.chains.places.items s.first c.remove.new.first s.index.items s.room _ _ _
    c.in_ok-t.t
    c.self.invariant c.remove.ensures.wheel c.remove.ensures.timers c.remove.ensures.shape.ticks
    c.remove.ensures.shape.capacity

pub returns-clause-taken : goal.returns-clause-taken
returns-clause-taken g c =
    let places = c.self.inside.chains.places.items in
    let t = c.in_ok-t.t in
    sym (ap (λ q. in_order (timers_of q.places)) c.self.view_is)
    ∙ first_taken t (in_order (timers_of places))
    (schedule_in_order (timers_of places) c.self.invariant.wheel.apart)
    (sym c.self.invariant.wheel.earliest ∙ c.in_ok-t.was)
    ∙ ap (λ xs. t ∷ xs) (sym (in_order-removed t (timers_of places)
    (timers_of c.remove.new.chains.places.items) c.self.invariant.wheel.apart
    c.remove.ensures.timers))

pub returns-clause-spare : goal.returns-clause-spare
returns-clause-spare g c =
    let spare : c.self.inside.room - length c.self.inside.chains.places.items
    ≡ c.args.self.now.spare =
    ap (λ q. q.spare) c.self.view_is in
    omega (
      arith,
      fewer_places c.in_ok-t.t c.self.inside.chains.places.items c.remove.new.chains.places.items
          c.self.invariant.wheel.apart c.remove.ensures.timers,
      c.self.invariant.fits,
    )
