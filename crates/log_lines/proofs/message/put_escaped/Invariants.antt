use Rattle.std.proofs.Common.{◌≤◌, ◌-◌, length, take}
use Rattle.std.specs.Prelude.{flat_map}
use Rattle.log_lines.specs.Texts.{byte_text}
use Rattle.sink_buffer.specs.Texts.{Puts}
use Rattle.log_lines.proofs.message.put_escaped.Given as goal

-- what was put so far
abbrev pub invariant-loop-at : goal.invariant-loop-at
invariant-loop-at g l = (l.at ≤ length l.bytes)
    × Puts g.T.TextOut.stands l.fn.out (flat_map byte_text (take l.at l.bytes)) l.out

abbrev pub decreases-loop-at : goal.decreases-loop-at
decreases-loop-at g l = length l.bytes - l.at
