use Rattle.core_loop.specs.Idle.{IsIdle}
use Rattle.test_nets.specs.RoundRobin.{round_robin_rows}
use Rattle.bench_reactor.proofs.one_thread.runs.serve_reports.Given as goal

abbrev pub invariant-loop : goal.invariant-loop
invariant-loop l = IsIdle round_robin_rows l.core
