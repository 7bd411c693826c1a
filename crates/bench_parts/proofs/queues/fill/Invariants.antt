use Rattle.std.proofs.Common.{◌≡◌, ◌≤◌, ◌+◌, ℕ, false}
use Rattle.timer_queue.specs.Timers.{is_scheduled}
use Rattle.bench_parts.proofs.queues.fill.Given as goal

-- there is room for the others, and no timer has their numbers
abbrev pub invariant-loop-timer : goal.invariant-loop-timer
invariant-loop-timer g l =
    (l.first + l.size ≤ g.Q.TimerQueue.spare l.queue + l.timer)
    × ((number : ℕ) → l.timer ≤ number
    → is_scheduled number (g.Q.TimerQueue.timers l.queue) ≡ false)
