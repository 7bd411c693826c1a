use Rattle.std.proofs.Common.{◌≡◌, ◌+◌, ◌++◌, length}
use Rattle.timer_queue.proofs.Merged.{IsMerging}
use Rattle.timer_queue.proofs.sorted.put_together.Given as goal

-- the timers so far with what is left of the list after them, and the room of both
abbrev pub invariant-loop-t : goal.invariant-loop-t
invariant-loop-t l =
    let begun = l.initial.recent.timers ++ l.initial.list.timers in
    IsMerging begun (l.merged.timers ++ l.list.timers) l.recent.timers (length begun)
    (length l.recent.timers)
    × (l.list.spare + length l.list.timers ≡ l.initial.list.spare + length l.initial.list.timers)
    × (l.merged.spare + length l.merged.timers ≡ l.initial.merged.spare)

abbrev pub decreases-loop-t : goal.decreases-loop-t
decreases-loop-t l = length l.recent.timers
