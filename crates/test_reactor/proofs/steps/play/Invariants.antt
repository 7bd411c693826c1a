use Rattle.core_loop.specs.Idle.{IsIdle}
use Rattle.test_nets.specs.Play.{play_rows}
use Rattle.test_reactor.proofs.steps.play.Given as goal

abbrev pub invariant-loop-at : goal.invariant-loop-at
invariant-loop-at l = IsIdle play_rows l.core
