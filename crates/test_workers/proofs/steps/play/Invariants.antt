use Rattle.test_pool.specs.Callers.{IsOutOrFree, SameRank}
use Rattle.test_workers.proofs.steps.play.Given as goal

abbrev pub invariant-loop-at : goal.invariant-loop-at
invariant-loop-at g l = record {
  first : IsOutOrFree l.fn.pool l.root l.first;
  second : IsOutOrFree l.fn.pool l.hired l.second;
  root : SameRank l.fn.root l.root;
  hired : SameRank l.fn.hired l.hired;
}
