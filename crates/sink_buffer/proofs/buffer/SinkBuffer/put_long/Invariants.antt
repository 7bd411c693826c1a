use Rattle.std.proofs.Common.{◌≤◌, length, take, ◌-◌}
use Rattle.sink_buffer.specs.Texts.{Puts}
use Rattle.sink_buffer.specs.Gathers.{HasPut}
use Rattle.sink_buffer.proofs.buffer.SinkBuffer.put_long.Given as goal

-- what was put so far
abbrev pub invariant-loop-at : goal.invariant-loop-at
invariant-loop-at g l =
    (l.at ≤ length l.bytes)
    × Puts (HasPut g.K.Sink.facts) l.fn.self (take l.at l.bytes) l.self

abbrev pub decreases-loop-at : goal.decreases-loop-at
decreases-loop-at g l = length l.bytes - l.at
