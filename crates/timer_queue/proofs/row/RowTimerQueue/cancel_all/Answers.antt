use Rattle.std.proofs.Common.{◌≡◌, ap, ◌∙◌, sym, subst, rules, not, ◌==◌, drop, length, arith}
use Rattle.std.proofs.lemmas.Fn.{filter_same}
use Rattle.std.specs.List.{filter}
use Rattle.timer_queue.specs.declared.timer.Timer.{Timer}
use Rattle.timer_queue.specs.Timers.{without_handle, IsSchedule}
use Rattle.timer_queue.proofs.Schedules.{schedule_filtered}
use Rattle.timer_queue.proofs.row.RowTimerQueue.cancel_all.Goals as goal

left : (c : goal.After-retain) → c.retain.new.self.items
    ≡ without_handle c.args.handle.0 (drop c.self.inside.head c.self.inside.timers.items)
left c =
    let e : c.retain.new.self.items ≡ filter (λ (t : Timer). not (t.handle.0 == c.args.handle.0))
    c.close_up.new.timers.items =
    filter_same _ _ _ (λ x b f' k. search rules) _ _ c.retain.ensures.filtered in
    e ∙ ap (λ xs. without_handle c.args.handle.0 xs) c.close_up.ensures.items

pub invariant_of-self : goal.invariant_of-self
invariant_of-self c =
    let n : length c.close_up.new.timers.items
    ≡ length (drop c.self.inside.head c.self.inside.timers.items) =
    ap length c.close_up.ensures.items in
    record {
      schedule = subst IsSchedule (sym (left c)) (schedule_filtered _ _ c.self.invariant.schedule);
      within = omega arith;
      fits = omega (arith, c.retain.ensures.bound, n, c.self.invariant.fits);
      places = omega (
        arith,
        c.retain.ensures.capacity,
        c.close_up.ensures.capacity,
        c.self.invariant.places,
      );
    }

pub returns-clause-timers : goal.returns-clause-timers
returns-clause-timers c = left c ∙ ap (λ q. without_handle c.args.handle.0 q.timers) c.self.view_is
