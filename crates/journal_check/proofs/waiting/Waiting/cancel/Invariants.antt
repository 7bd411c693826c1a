use Rattle.std.proofs.Common.{◌≡◌, not, length}
use Rattle.std.specs.List.{filter}
use Rattle.reactor_journal.specs.Past as P
use Rattle.reactor_summary.specs.declared.parts.WaitingEvent.{WaitingEvent}
use Rattle.journal_check.proofs.waiting.Waiting.cancel.Given as goal

abbrev pub invariant-loop-event : goal.invariant-loop-event
invariant-loop-event l = filter (λ (w : WaitingEvent). not (P.is_timeout_of l.timer w.upcall))
    l.self ≡ filter (λ (w : WaitingEvent). not (P.is_timeout_of l.timer w.upcall)) l.initial.self

abbrev pub decreases-loop-event : goal.decreases-loop-event
decreases-loop-event l = length l.self
