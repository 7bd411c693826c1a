use Rattle.test_pool.specs.Callers.{IsFree, SameRank}
use Rattle.bench_reactor.proofs.pool.calls.serve.Given as goal

abbrev pub invariant-loop : goal.invariant-loop
invariant-loop g l = record {
  can : (goal.iterator-loop g).can_next l.iterator';
  finite : (goal.iterator-loop g).is_finite l.iterator';
  free : IsFree l.fn.pool l.worker;
  rank : SameRank l.fn.worker l.worker;
}
