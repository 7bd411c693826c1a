use Rattle.std.proofs.Common.{◌≡◌, ◌+◌, ◌-◌, ◌==◌, ◌++◌, not, length, List, sym, ap, ◌∙◌, subst}
use Rattle.std.proofs.Common.{arith, length-append}
use Rattle.timer_queue.specs.declared.timer.Timer.{Timer}
use Rattle.timer_queue.specs.Content.{Content}
use Rattle.timer_queue.specs.Timers.{in_order, without_handle}
use Rattle.timer_queue.specs.Sorted.{AreRows}
use Rattle.timer_queue.proofs.Rows.{length-filter_le}
use Rattle.timer_queue.proofs.Contents.{length-in_order}
use Rattle.timer_queue.proofs.Merged.{filtered_both, rows_filtered}
use Rattle.timer_queue.proofs.sorted.SortedTimersTimerQueue.cancel_all.Goals as goal

pub invariant_of-self : goal.invariant_of-self
invariant_of-self c =
    subst (λ (xs : List Timer). AreRows xs c.cancel_all-2.new.self.timers
    c.self.inside.merged.timers c.self.inside.room c.cancel_all-2.new.self.spare
    c.self.inside.merged.spare) (sym c.cancel_all.ensures.timers)
    (subst (λ (xs : List Timer). AreRows
    (without_handle c.args.handle.0 c.self.inside.recent.timers) xs c.self.inside.merged.timers
    c.self.inside.room c.cancel_all-2.new.self.spare c.self.inside.merged.spare)
    (sym c.cancel_all-2.ensures.timers)
    (rows_filtered (λ t. not (t.handle.0 == c.args.handle.0)) c.self.inside.recent.timers
    c.self.inside.list.timers c.self.inside.merged.timers c.self.inside.room
    c.self.inside.list.spare c.cancel_all-2.new.self.spare c.self.inside.merged.spare
    (omega (arith, ap length c.cancel_all-2.ensures.timers, c.cancel_all-2.ensures.spare))
    c.self.invariant))

pub returns-clause-timers : goal.returns-clause-timers
returns-clause-timers c =
    ap (λ (xs : List Timer). in_order (xs ++ c.cancel_all-2.new.self.timers))
    c.cancel_all.ensures.timers
    ∙ (ap (λ (xs : List Timer). in_order
    (without_handle c.args.handle.0 c.self.inside.recent.timers ++ xs))
    c.cancel_all-2.ensures.timers
    ∙ (filtered_both (λ t. not (t.handle.0 == c.args.handle.0)) c.self.inside.recent.timers
    c.self.inside.list.timers c.self.invariant.apart
    ∙ ap (λ (v : Content). without_handle c.args.handle.0 v.timers) c.self.view_is))

pub returns-clause-spare : goal.returns-clause-spare
returns-clause-spare c =
    let spare : c.self.inside.room - (length c.self.inside.recent.timers
    + length c.self.inside.list.timers) ≡ c.args.self.now.spare =
    ap (λ (v : Content). v.spare) c.self.view_is in
    let held : length (in_order (c.self.inside.recent.timers ++ c.self.inside.list.timers))
    ≡ length c.args.self.now.timers = ap (λ (v : Content). length v.timers) c.self.view_is in
    omega (
      arith,
      spare,
      held,
      length-in_order (c.self.inside.recent.timers ++ c.self.inside.list.timers),
      length-append c.self.inside.recent.timers c.self.inside.list.timers,
      length-in_order (c.cancel_all.new.self.timers ++ c.cancel_all-2.new.self.timers),
      length-append c.cancel_all.new.self.timers c.cancel_all-2.new.self.timers,
      ap length c.cancel_all.ensures.timers,
      ap length c.cancel_all-2.ensures.timers,
      length-filter_le (λ t. not (t.handle.0 == c.args.handle.0)) c.self.inside.recent.timers,
      length-filter_le (λ t. not (t.handle.0 == c.args.handle.0)) c.self.inside.list.timers,
      c.self.invariant.fits,
    )
