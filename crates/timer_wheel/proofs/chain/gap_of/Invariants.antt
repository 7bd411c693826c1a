use Rattle.std.proofs.Common.{◌≡◌, ◌≤◌, List, length, true}
use Rattle.timer_queue.specs.declared.timer.Timer.{Timer}
use Rattle.timer_queue.specs.Timers.{is_rising}
use Rattle.timer_wheel.specs.Spokes.{Follows}
use Rattle.timer_wheel.specs.Chains.{Walked, IsStart}
use Rattle.timer_wheel.proofs.chain.gap_of.Given as goal

abbrev pub invariant-chain : goal.invariant-chain
invariant-chain l =
    (timers : List Timer) → Follows l.places l.fn.head timers → length timers ≤ length l.places
    → is_rising timers ≡ true → IsStart l.places timers l.t l.fn.start
    → (w : Walked l.places l.fn.head l.t timers l.last l.at) × (l.counter ≤ length w.front)
