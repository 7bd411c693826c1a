use Rattle.std.proofs.Common.{◌≡◌, false}
use Rattle.module_stream.specs.Streams.{has_started}
use Rattle.bench_parts.proofs.streams.run.Given as goal

-- no message was put
abbrev pub invariant-loop-name : goal.invariant-loop-name
invariant-loop-name l = has_started l.stream ≡ false
