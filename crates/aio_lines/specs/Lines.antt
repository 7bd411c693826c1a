-- The lines of connections.
use Rattle.std.specs.Prelude.{ℕ, List, [], ◌++◌, codes, decimal, flat_map}
use Rattle.reactor_model.specs.reactor_journal.specs.declared.entry.Entry.{Entry}
use Rattle.reactor_model.specs.reactor_journal.specs.declared.entry.Entry.TheVariants as entry
use Rattle.proactor.specs.declared.note.AsynchNote.{AsynchNote}
use Rattle.proactor.specs.declared.service.AioNote.{AioNote}
use Rattle.proactor.specs.declared.service.AioNote.TheVariants as note

-- the line of a connection, by its last note
abbrev pub connection_line : AsynchNote → List ℕ
connection_line said =
    decimal said.conn ++ (codes " read " ++ decimal said.read)
    ++ (codes " wrote " ++ decimal said.wrote) ++ (codes " cancelled " ++ decimal said.cancelled)
    ++ codes "\n"

abbrev pub note_lines : AioNote → List ℕ
note_lines (note.End said) = connection_line said
note_lines _ = []

-- the line of a connection stands with the entry that closed or refused it
abbrev pub entry_lines : Entry AioNote → List ℕ
entry_lines (entry.Refused live fault said) = note_lines said
entry_lines (entry.Closed handle said) = note_lines said
entry_lines _ = []

-- the lines of a journal are those of its entries, in order
abbrev pub journal_lines : List (Entry AioNote) → List ℕ
journal_lines entries = flat_map entry_lines entries
