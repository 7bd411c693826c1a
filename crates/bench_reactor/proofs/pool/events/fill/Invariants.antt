use Rattle.test_pool.specs.Callers.{IsFree, SameRank}
use Rattle.bench_reactor.proofs.pool.events.fill.Given as goal

abbrev pub invariant-loop : goal.invariant-loop
invariant-loop g l = IsFree l.fn.pool l.root × SameRank l.fn.root l.root
