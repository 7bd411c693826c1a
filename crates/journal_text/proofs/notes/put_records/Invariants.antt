use Rattle.std.proofs.Common.{map}
use Rattle.cdr_record.specs.Borrowed.{owned}
use Rattle.journal_text.specs.Texts.{record_words}
use Rattle.sink_buffer.specs.Texts.{Puts}
use Rattle.journal_text.proofs.notes.put_records.Given as goal

-- the words of the records so far
abbrev pub invariant-loop-entry : goal.invariant-loop-entry
invariant-loop-entry g l = Puts g.T.TextOut.stands l.fn.out (record_words (map owned l.yielded))
    l.out
