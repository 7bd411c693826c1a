use Rattle.std.proofs.Common.{◌≡◌, ◌++◌, true, sym, ap, ◌∙◌, subst}
use Rattle.timer_queue.specs.Content.{Content}
use Rattle.timer_queue.specs.Timers.{is_rising, names_once, first_deadline}
use Rattle.timer_queue.proofs.Members.{schedule_in_order}
use Rattle.timer_queue.proofs.Merged.{earliest_recent, earliest_list}
use Rattle.timer_queue.proofs.sorted.SortedTimersTimerQueue.earliest.Goals as goal

pub returns-then-is_recent_first-clause-first : goal.returns-then-is_recent_first-clause-first
returns-then-is_recent_first-clause-first c =
    let q = c.self.invariant in
    c.earliest.ensures.first ∙ (earliest_recent c.self.inside.recent.timers
    c.self.inside.list.timers q.apart q.recent_rises q.list_rises
    (sym c.is_recent_first.ensures ∙ c.if-is_recent_first.true)
    ∙ ap (λ (v : Content). first_deadline v.timers) c.self.view_is)

pub returns-then-is_recent_first-clause-rising : goal.returns-then-is_recent_first-clause-rising
returns-then-is_recent_first-clause-rising c =
    subst (λ (v : Content). is_rising v.timers ≡ true) c.self.view_is
    (schedule_in_order (c.self.inside.recent.timers ++ c.self.inside.list.timers)
    c.self.invariant.apart).rising

pub returns-then-is_recent_first-clause-once : goal.returns-then-is_recent_first-clause-once
returns-then-is_recent_first-clause-once c =
    subst (λ (v : Content). names_once v.timers ≡ true) c.self.view_is
    (schedule_in_order (c.self.inside.recent.timers ++ c.self.inside.list.timers)
    c.self.invariant.apart).once

pub returns-else-is_recent_first-clause-first : goal.returns-else-is_recent_first-clause-first
returns-else-is_recent_first-clause-first c =
    let q = c.self.invariant in
    c.earliest-else-is_recent_first.ensures.first
    ∙ (earliest_list c.self.inside.recent.timers c.self.inside.list.timers q.apart
    q.recent_rises q.list_rises (sym c.is_recent_first.ensures ∙ c.if-is_recent_first.false)
    ∙ ap (λ (v : Content). first_deadline v.timers) c.self.view_is)

pub returns-else-is_recent_first-clause-rising : goal.returns-else-is_recent_first-clause-rising
returns-else-is_recent_first-clause-rising c =
    subst (λ (v : Content). is_rising v.timers ≡ true) c.self.view_is
    (schedule_in_order (c.self.inside.recent.timers ++ c.self.inside.list.timers)
    c.self.invariant.apart).rising

pub returns-else-is_recent_first-clause-once : goal.returns-else-is_recent_first-clause-once
returns-else-is_recent_first-clause-once c =
    subst (λ (v : Content). names_once v.timers ≡ true) c.self.view_is
    (schedule_in_order (c.self.inside.recent.timers ++ c.self.inside.list.timers)
    c.self.invariant.apart).once
