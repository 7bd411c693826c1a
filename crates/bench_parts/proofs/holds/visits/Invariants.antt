use Rattle.bench_parts.specs.Free.{IsFree}
use Rattle.bench_parts.proofs.holds.visits.Given as goal

abbrev pub invariant-loop : goal.invariant-loop
invariant-loop g l = IsFree l.token l.pass
