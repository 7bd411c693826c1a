use Rattle.std.proofs.Common.{◌≡◌, ◌≤◌, ◌+◌, ◌-◌, ◌==◌, not, length, drop}
use Rattle.std.specs.List.{prefix_len}
use Rattle.log_lines.proofs.message.length_before_zero.Given as goal

-- the bytes so far are a run
abbrev pub invariant-loop-at : goal.invariant-loop-at
invariant-loop-at l = (l.at ≤ length l.message)
    × (prefix_len (λ byte. not (byte == 0)) l.message
    ≡ l.at + prefix_len (λ byte. not (byte == 0)) (drop l.at l.message))

abbrev pub decreases-loop-at : goal.decreases-loop-at
decreases-loop-at l = length l.message - l.at
