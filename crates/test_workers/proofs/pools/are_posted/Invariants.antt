use Rattle.test_pool.specs.Callers.{IsFree, SameRank}
use Rattle.test_workers.proofs.pools.are_posted.Given as goal

abbrev pub invariant-loop-number : goal.invariant-loop-number
invariant-loop-number l = IsFree l.fn.pool l.root × SameRank l.fn.root l.root
