use Rattle.std.proofs.Common.{◌≡◌}
use Rattle.task_server.specs.Calls.{put_log, putter_pool}
use Rattle.test_task_pool.proofs.queue.fill.Given as goal

abbrev pub invariant-loop-event : goal.invariant-loop-event
invariant-loop-event g l = (putter_pool l.putter ≡ putter_pool l.fn.putter)
    × ((put_log l.putter).shares ≡ (put_log l.fn.putter).shares)
