use Rattle.std.proofs.Common.{◌≡◌, ◌≤◌, ◌+◌, ◌-◌, length, vec_len}
use Rattle.task_server.specs.Calls.{put_log, putter_pool}
use Rattle.cmd_pool.proofs.layers.putters.Given as goal

-- each took one share
abbrev pub invariant-loop-alloc : goal.invariant-loop-alloc
invariant-loop-alloc g l = (putter_pool l.root ≡ putter_pool l.fn.root)
    × ((put_log l.root).shares + length l.putters.items ≡ (put_log l.fn.root).shares)
    × (length l.putters.items ≤ l.many)

abbrev pub decreases-loop-alloc : goal.decreases-loop-alloc
decreases-loop-alloc g l = l.many - vec_len l.putters
