use Rattle.std.proofs.Common.{◌≡◌, drop}
use Rattle.std.specs.List.{find}
use Rattle.std.specs.VecDeque.{deque_items}
use Rattle.reactor_summary.specs.reactor_journal.specs.Past as P
use Rattle.reactor_summary.specs.declared.parts.WaitingEvent.{WaitingEvent}
use Rattle.reactor_state.proofs.waiting.first_timeout.Given as goal

abbrev pub invariant-loop-place : goal.invariant-loop-place
invariant-loop-place l = find (λ (w : WaitingEvent). P.is_timeout_of l.timer w.upcall)
    (deque_items l.queue) ≡ find (λ (w : WaitingEvent). P.is_timeout_of l.timer w.upcall)
    (drop l.place (deque_items l.queue))
