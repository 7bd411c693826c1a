use Rattle.std.proofs.Common.{◌≡◌, ◌==◌, not, take}
use Rattle.std.specs.List.{list_all}
use Rattle.log_lines.proofs.message.are_nonzero.Given as goal

abbrev pub invariant-loop-byte : goal.invariant-loop-byte
invariant-loop-byte l = l.nonzero ≡ list_all (λ byte. not (byte == 0)) (take l.byte-index l.bytes)
