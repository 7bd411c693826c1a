use Rattle.std.proofs.Common.{◌<◌, ◌^◌}
use Rattle.journal_reader.proofs.Numbers.{GoesOn}
use Rattle.journal_reader.proofs.values.read_digits.Given as goal

abbrev pub invariant-loop-byte : goal.invariant-loop-byte
invariant-loop-byte l = GoesOn l.word l.byte-index l.number × (l.number < 2 ^ 64)
