use Rattle.core_loop.specs.Idle.{IsIdle}
use Rattle.test_nets.specs.RoundRobin.{round_robin_rows}
use Rattle.bench_reactor.proofs.one_thread.runs.register_all.Given as goal

abbrev pub invariant-loop-at : goal.invariant-loop-at
invariant-loop-at l = IsIdle round_robin_rows l.core
