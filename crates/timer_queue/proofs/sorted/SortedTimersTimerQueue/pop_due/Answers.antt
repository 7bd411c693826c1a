use Rattle.std.proofs.Common.{◌≡◌, ◌++◌, ◌∷◌, ◌<◌, sym, ◌∙◌, subst}
use Rattle.std.specs.List.{All}
use Rattle.std.specs.Prelude.{IfSome, IfNone}
use Rattle.timer_queue.specs.declared.timer.Timer.{Timer}
use Rattle.timer_queue.specs.Content.{Content}
use Rattle.timer_queue.specs.Timers.{in_order}
use Rattle.timer_queue.proofs.Merged.{taken_recent, taken_list, undue_recent, undue_list}
use Rattle.timer_queue.proofs.Merged.{rows_recent, rows_list}
use Rattle.timer_queue.proofs.sorted.SortedTimersTimerQueue.pop_due.Goals as goal

pub invariant_of-self : goal.invariant_of-self
invariant_of-self c =
    rows_recent c.pop_due.result c.self.inside.recent.timers c.pop_due.new.self.timers
    c.self.inside.list.timers c.self.inside.merged.timers c.self.inside.room
    c.self.inside.list.spare c.self.inside.merged.spare
    c.pop_due.ensures.taken c.pop_due.ensures.unchanged c.self.invariant

pub invariant_of-self-else-is_recent_first : goal.invariant_of-self-else-is_recent_first
invariant_of-self-else-is_recent_first c =
    rows_list c.pop_due-else-is_recent_first.result c.self.inside.recent.timers
    c.self.inside.list.timers c.pop_due-else-is_recent_first.new.self.timers
    c.self.inside.merged.timers c.self.inside.room c.self.inside.list.spare
    c.pop_due-else-is_recent_first.new.self.spare c.self.inside.merged.spare
    c.pop_due-else-is_recent_first.ensures.taken c.pop_due-else-is_recent_first.ensures.unchanged
    c.pop_due-else-is_recent_first.ensures.spare c.pop_due-else-is_recent_first.ensures.kept
    c.self.invariant

pub returns-then-is_recent_first-clause-taken : goal.returns-then-is_recent_first-clause-taken
returns-then-is_recent_first-clause-taken c =
    subst (λ (v : Content). IfSome c.pop_due.result
    (λ t. v.timers ≡ t ∷ in_order (c.pop_due.new.self.timers ++ c.self.inside.list.timers)))
    c.self.view_is
    (taken_recent c.pop_due.result c.self.inside.recent.timers c.pop_due.new.self.timers
    c.self.inside.list.timers c.pop_due.ensures.taken c.self.invariant.apart
    c.self.invariant.recent_rises c.self.invariant.list_rises
    (sym c.is_recent_first.ensures ∙ c.if-is_recent_first.true))

pub returns-then-is_recent_first-clause-none : goal.returns-then-is_recent_first-clause-none
returns-then-is_recent_first-clause-none c =
    subst (λ (v : Content). IfNone c.pop_due.result
    (All (λ (t : Timer). c.args.now < t.deadline) v.timers)) c.self.view_is
    (undue_recent c.pop_due.result c.args.now c.self.inside.recent.timers c.self.inside.list.timers
    c.pop_due.ensures.none c.self.invariant.apart c.self.invariant.recent_rises
    c.self.invariant.list_rises (sym c.is_recent_first.ensures ∙ c.if-is_recent_first.true))

pub returns-else-is_recent_first-clause-taken : goal.returns-else-is_recent_first-clause-taken
returns-else-is_recent_first-clause-taken c =
    subst (λ (v : Content). IfSome c.pop_due-else-is_recent_first.result
    (λ t. v.timers ≡ t ∷ in_order (c.self.inside.recent.timers
    ++ c.pop_due-else-is_recent_first.new.self.timers))) c.self.view_is
    (taken_list c.pop_due-else-is_recent_first.result c.self.inside.recent.timers
    c.self.inside.list.timers c.pop_due-else-is_recent_first.new.self.timers
    c.pop_due-else-is_recent_first.ensures.taken c.self.invariant.apart
    c.self.invariant.recent_rises c.self.invariant.list_rises
    (sym c.is_recent_first.ensures ∙ c.if-is_recent_first.false))

pub returns-else-is_recent_first-clause-none : goal.returns-else-is_recent_first-clause-none
returns-else-is_recent_first-clause-none c =
    subst (λ (v : Content). IfNone c.pop_due-else-is_recent_first.result
    (All (λ (t : Timer). c.args.now < t.deadline) v.timers)) c.self.view_is
    (undue_list c.pop_due-else-is_recent_first.result c.args.now c.self.inside.recent.timers
    c.self.inside.list.timers c.pop_due-else-is_recent_first.ensures.none c.self.invariant.apart
    c.self.invariant.recent_rises c.self.invariant.list_rises
    (sym c.is_recent_first.ensures ∙ c.if-is_recent_first.false))
