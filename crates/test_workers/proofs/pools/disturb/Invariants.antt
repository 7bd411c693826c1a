use Rattle.test_pool.specs.Callers.{IsFree, SameRank}
use Rattle.test_workers.proofs.pools.disturb.Given as goal

abbrev pub invariant-loop : goal.invariant-loop
invariant-loop g l = IsFree l.fn.pool l.worker × SameRank l.fn.worker l.worker
