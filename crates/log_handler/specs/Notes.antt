-- What the server's handlers note of their turns, and the lines of their notes (C++NPv2 chapter 4:
-- what the networked logging server prints; the closing lines are this project's own).
use Rattle.std.specs.Prelude.{ℕ, Bool, true, false, List, [], flat_map}
use Rattle.line_sink.specs.reactor_journal.specs.declared.entry.Entry.{Entry}
use Rattle.line_sink.specs.reactor_journal.specs.declared.entry.Entry.TheVariants as entry
use Rattle.log_lines.specs.Texts.{record_lines, closing_line}
use Rattle.log_handler.specs.declared.note.ServerNote.{ServerNote}
use Rattle.log_handler.specs.declared.note.ServerNote.TheVariants as note

-- the lines of a note: those of a piece's records, and the closing line of a connection
abbrev pub note_lines : ServerNote → List ℕ
note_lines (note.Piece conn took records) = record_lines conn records
note_lines (note.Finished conn end) = closing_line conn end
note_lines _ = []

-- whether it says what a turn of a connection took
abbrev pub is_piece : ServerNote → Bool
is_piece (note.Piece conn took records) = true
is_piece _ = false

-- the lines of an entry are those of its note
abbrev pub entry_lines : Entry ServerNote → List ℕ
entry_lines (entry.Returned event answer said) = note_lines said
entry_lines (entry.Refused live fault said) = note_lines said
entry_lines (entry.Closed handle said) = note_lines said
entry_lines _ = []

-- the lines of a journal are those of its entries, in order
abbrev pub journal_lines : List (Entry ServerNote) → List ℕ
journal_lines entries = flat_map entry_lines entries
