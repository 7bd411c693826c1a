use Rattle.core_loop.specs.Idle.{IsIdle}
use Rattle.test_nets.specs.Play.{play_rows}
use Rattle.bench_reactor.proofs.one_thread.calls.make_all.Given as goal

abbrev pub invariant-loop-call : goal.invariant-loop-call
invariant-loop-call l = IsIdle play_rows l.core
