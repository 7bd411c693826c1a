use Rattle.std.proofs.Common.{length}
use Rattle.journal_reader.proofs.JournalRead.{HasRead}
use Rattle.journal_reader.proofs.reading.read_journal.Given as goal

abbrev pub invariant-loop-rest : goal.invariant-loop-rest
invariant-loop-rest l = HasRead l.bytes l.rest l.line l.most l.journal.entries

abbrev pub decreases-loop-rest : goal.decreases-loop-rest
decreases-loop-rest l = length l.rest
