use Rattle.std.proofs.Common.{◌≡◌, ℕ, drop}
use Rattle.std.specs.List.{find}
use Rattle.std.specs.VecDeque.{deque_items}
use Rattle.reactor_summary.specs.declared.parts.WaitingEvent.{WaitingEvent}
use Rattle.reactor_state.specs.Rises.{RisesIn}
use Rattle.reactor_state.specs.Sound.{handle_number}
use Rattle.reactor_state.specs.Tables.{is_free}
use Rattle.reactor_state.proofs.waiting.first_free.Given as goal

abbrev pub invariant-loop-place : goal.invariant-loop-place
invariant-loop-place l = (hi : ℕ) → RisesIn handle_number 0 hi l.handles
    → find (λ (w : WaitingEvent). is_free l.handles l.opens w.handle.0) (deque_items l.queue)
    ≡ find (λ (w : WaitingEvent). is_free l.handles l.opens w.handle.0)
    (drop l.place (deque_items l.queue))
