use Rattle.std.proofs.Common.{◌≡◌, ap, ◌∙◌, subst, List, rules, true}
use Rattle.std.specs.List.{slice_get}
use Rattle.std.specs.Option.{option_map}
use Rattle.timer_queue.specs.declared.timer.Timer.{Timer}
use Rattle.timer_queue.specs.Timers.{in_order, first_deadline, is_rising, names_once}
use Rattle.timer_queue.proofs.Members.{schedule_in_order}
use Rattle.timer_heap.proofs.Firsts.{earliest_is}
use Rattle.timer_heap.proofs.heap.HeapTimersTimerQueue.earliest.Goals as goal

pub returns-clause-first : goal.returns-clause-first
returns-clause-first c =
    let slots : List Timer = c.self.inside.tree.slots.items in
    let read : c.map.result ≡ option_map (λ (t : Timer). t.deadline) (slice_get slots 0) =
    search rules in
    read ∙ earliest_is slots c.self.invariant.heap c.self.invariant.apart
    ∙ ap (λ q. first_deadline (in_order q.slots)) c.self.view_is

pub returns-clause-rising : goal.returns-clause-rising
returns-clause-rising c = subst (λ q. is_rising (in_order q.slots) ≡ true) c.self.view_is
    (schedule_in_order c.self.inside.tree.slots.items c.self.invariant.apart).rising

pub returns-clause-once : goal.returns-clause-once
returns-clause-once c = subst (λ q. names_once (in_order q.slots) ≡ true) c.self.view_is
    (schedule_in_order c.self.inside.tree.slots.items c.self.invariant.apart).once
