use Rattle.std.proofs.Common.{◌≡◌, ◌+◌, not, length}
use Rattle.std.specs.List.{filter}
use Rattle.reactor_summary.specs.declared.parts.WaitingEvent.{WaitingEvent}
use Rattle.journal_check.specs.Queue.{lane_of, is_within}
use Rattle.journal_check.proofs.waiting.Waiting.clear_between.Given as goal

abbrev pub invariant-loop-event : goal.invariant-loop-event
invariant-loop-event l = filter (λ (w : WaitingEvent).
    not (is_within l.low (l.last + 1) (lane_of w))) l.self
    ≡ filter (λ (w : WaitingEvent). not (is_within l.low (l.last + 1) (lane_of w))) l.initial.self

abbrev pub decreases-loop-event : goal.decreases-loop-event
decreases-loop-event l = length l.self
