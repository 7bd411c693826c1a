use Rattle.std.proofs.Common.{length}
use Rattle.journal_reader.specs.Parts.{left}
use Rattle.journal_reader.proofs.RecordsRead.{GoesOn}
use Rattle.journal_reader.proofs.read_records.read_records.Given as goal

abbrev pub invariant-loop-word : goal.invariant-loop-word
invariant-loop-word l = GoesOn (left l.fn.parts) l.records.items (left l.parts)

abbrev pub decreases-loop-word : goal.decreases-loop-word
decreases-loop-word l = length (left l.parts)
