use Rattle.std.proofs.Common.{◌≡◌, ◌≤◌, ◌+◌, length, take}
use Rattle.sink_buffer.specs.Texts.{Puts}
use Rattle.reactor_journal.specs.Past.{past_of}
use Rattle.journal_picture.specs.Places.{tables}
use Rattle.journal_picture.specs.Rooms.{tables_of, room_of}
use Rattle.journal_picture.proofs.Marking.{marks_text}
use Rattle.journal_picture.proofs.picture.put_marks.Given as goal

-- what was seen, and the marks so far
abbrev pub invariant-loop-entry : goal.invariant-loop-entry
invariant-loop-entry g l = record {
  seen : tables_of l.seen ≡ tables l.fn.seen.handles (past_of (take l.entry-index l.entries));
  handles : l.seen.handles ≡ l.fn.seen.handles;
  room : length l.entries ≤ l.entry-index + room_of l.seen;
  marks : Puts g.T.TextOut.stands l.fn.out
      (marks_text l.layout l.fn.seen.handles (past_of (take l.entry-index l.entries))) l.out;
}
