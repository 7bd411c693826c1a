use Rattle.core_loop.specs.Idle.{IsIdle}
use Rattle.bench_reactor.specs.CoreRuns.{member_core}
use Rattle.bench_reactor.proofs.pool.core_runs.fill.Given as goal

abbrev pub invariant-loop : goal.invariant-loop
invariant-loop l = IsIdle member_core l.core
