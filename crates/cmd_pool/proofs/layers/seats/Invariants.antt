use Rattle.std.proofs.Common.{◌≡◌, ◌+◌}
use Rattle.task_server.specs.Calls.{take_log, taker_pool}
use Rattle.cmd_pool.proofs.layers.seats.Given as goal

-- each took one share
abbrev pub invariant-loop-number : goal.invariant-loop-number
invariant-loop-number l = (taker_pool l.root ≡ taker_pool l.fn.root)
    × ((take_log l.root).shares + l.number ≡ (take_log l.fn.root).shares)
