use Rattle.std.proofs.Common.{take, length, ◌≤◌, ◌-◌}
use Rattle.hex.specs.Hex.{encode_lower}
use Rattle.sink_buffer.specs.Texts.{Puts}
use Rattle.journal_text.proofs.words.put_digits.Given as goal

-- the digits of the bytes so far
abbrev pub invariant-loop-at : goal.invariant-loop-at
invariant-loop-at g l = (l.at ≤ length l.message)
    × Puts g.T.TextOut.stands l.fn.out (encode_lower (take l.at l.message)) l.out

abbrev pub decreases-loop-at : goal.decreases-loop-at
decreases-loop-at g l = length l.message - l.at
