use Rattle.std.proofs.Common.{◌≡◌, ◌==◌, length, drop, not, false, Some, None, ap, ◌∙◌, sym, subst}
use Rattle.std.proofs.Common.{arith}
use Rattle.std.proofs.lemmas.List.Folds.{list_any_at, list_any_none}
use Rattle.timer_queue.specs.declared.timer.Timer.{Timer}
use Rattle.timer_queue.specs.Timers.{is_scheduled, without_timer, IsSchedule}
use Rattle.timer_queue.specs.Sorted.{Found}
use Rattle.timer_queue.proofs.Schedules.{schedule_filtered, without_timer-fresh}
use Rattle.timer_queue.proofs.Rows.{from_place, remove_numbered, length-filter_le}
use Rattle.timer_queue.proofs.row.RowTimerQueue.cancel.Goals as goal

absent : (c : goal.In_default) → is_scheduled c.args.timer c.args.self.now.timers ≡ false
absent c =
    let live = drop c.self.inside.head c.self.inside.timers.items in
    let f : Found c.args.timer live None =
    subst (λ r. Found c.args.timer live r) c.in_default.is
    (rw (from_place c.self.inside.timers.items c.self.inside.head) at
    (rw c.deref.ensures.value at c.position_of.ensures)) in
    sym (ap (λ q. is_scheduled c.args.timer q.timers) c.self.view_is)
    ∙ list_any_none (λ t. t.timer == c.args.timer) live (λ k d l. f k d (omega arith) l)

pub returns-in_default-clause-found : goal.returns-in_default-clause-found
returns-in_default-clause-found c = sym (absent c)

pub returns-in_default-clause-timers : goal.returns-in_default-clause-timers
returns-in_default-clause-timers c =
    sym (without_timer-fresh c.args.timer c.args.self.now.timers (absent c))

found : (c : goal.After-self-1) → Found c.args.timer
    (drop c.self.inside.head c.self.inside.timers.items) (Some c.in-Some.place)
found c =
    let live = drop c.self.inside.head c.self.inside.timers.items in
    subst (λ r. Found c.args.timer live r) c.in-Some.is
    (rw (from_place c.self.inside.timers.items c.self.inside.head) at
    (rw c.deref.ensures.value at c.position_of.ensures))

taken : (c : goal.After-self-1) → drop c.take_at-self-inside.result
    c.take_at-self-inside.new.timers.items
    ≡ without_timer c.args.timer (drop c.self.inside.head c.self.inside.timers.items)
taken c =
    let f = found c in
    c.take_at-self-inside.ensures.items
    ∙ remove_numbered c.args.timer (drop c.self.inside.head c.self.inside.timers.items)
    c.in-Some.place c.self.invariant.schedule.once f.0 f.1

pub invariant_of-self : goal.invariant_of-self
invariant_of-self c = record {
  schedule = subst IsSchedule (sym (taken c)) (schedule_filtered _ _ c.self.invariant.schedule);
  within = c.take_at-self-inside.ensures.within;
  fits = omega (
    arith,
    ap length (taken c),
    length-filter_le (λ t. not (t.timer == c.args.timer))
        (drop c.self.inside.head c.self.inside.timers.items),
    c.self.invariant.fits,
  );
  places = omega (arith, c.take_at-self-inside.ensures.capacity, c.self.invariant.places);
}

pub returns-clause-found : goal.returns-clause-found
returns-clause-found c =
    let f = found c in
    let none : Timer = record { deadline = 0; timer = 0; handle = record { 0 = 0 }; every = 0 } in
    sym (list_any_at (λ t. t.timer == c.args.timer)
    (drop c.self.inside.head c.self.inside.timers.items) c.in-Some.place none f.0 (f.1 none))
    ∙ ap (λ q. is_scheduled c.args.timer q.timers) c.self.view_is

pub returns-clause-timers : goal.returns-clause-timers
returns-clause-timers c = taken c ∙ ap (λ q. without_timer c.args.timer q.timers) c.self.view_is
