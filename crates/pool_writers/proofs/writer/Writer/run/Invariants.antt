use Rattle.std.proofs.Common.{◌≡◌}
use Rattle.task_server.specs.Calls.{pool_id, take_log, taker_pool}
use Rattle.pool_writers.specs.Writers.{ServesTaken}
use Rattle.pool_writers.proofs.writer.Writer.run.Given as goal

-- what was taken so far was served
abbrev pub invariant-loop : goal.invariant-loop
invariant-loop g l =
    (taker_pool l.taker ≡ pool_id l.shared.value.pool)
    × (taker_pool l.taker ≡ taker_pool l.fn.self.taker)
    × ServesTaken (take_log l.fn.self.taker) (g.S.Service.served l.fn.self.service)
    (take_log l.taker) (g.S.Service.served l.service)
