use Rattle.std.proofs.Common.{◌≡◌, false}
use Rattle.module_stream.specs.Streams.{has_started}
use Rattle.test_messages.proofs.streams.tests.modules.Given as goal

-- no message was put yet
abbrev pub invariant-loop-turn : goal.invariant-loop-turn
invariant-loop-turn g l = has_started l.stream ≡ false
