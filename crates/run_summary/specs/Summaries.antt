-- The summary of a journal: how many connections were accepted, how many records and bytes its
-- notes have, and how many lines (this project's own).
use Rattle.std.specs.Prelude.{◌≡◌, ℕ, ◌-◌, ◌^◌, ◌==◌, min, List, ◌++◌, length, codes, decimal}
use Rattle.std.specs.List.{sum_by, count_by}
use Rattle.reactor_journal.specs.declared.entry.Entry.{Entry}
use Rattle.reactor_journal.specs.declared.entry.Entry.TheVariants as entry
use Rattle.log_handler.specs.declared.note.ServerNote.{ServerNote}
use Rattle.log_handler.specs.declared.note.ServerNote.TheVariants as note
use Rattle.log_handler.specs.Laws.{took_of, records_of_note}
use Rattle.log_handler.specs.Notes.{note_lines, journal_lines}
use Rattle.run_summary.specs.declared.summary.Summary.{Summary}

-- a number of an entry's note; an entry without a note has 0
abbrev pub of_note : (ServerNote → ℕ) → Entry ServerNote → ℕ
of_note number (entry.Returned event answer said) = number said
of_note number (entry.Refused live fault said) = number said
of_note number (entry.Closed handle said) = number said
of_note number _ = 0

-- that number of all notes of a journal
abbrev pub in_notes : (ServerNote → ℕ) → List (Entry ServerNote) → ℕ
in_notes number entries = sum_by (of_note number) entries

-- how many notes tell of a connection that was accepted
abbrev pub acceptances : ServerNote → ℕ
acceptances (note.Accepted conn) = 1
acceptances _ = 0

abbrev pub connections_in : List (Entry ServerNote) → ℕ
connections_in entries = in_notes acceptances entries

-- how many records the notes have
abbrev pub records_in : List (Entry ServerNote) → ℕ
records_in entries = in_notes (λ said. length (records_of_note said)) entries

-- how many bytes were taken
abbrev pub bytes_in : List (Entry ServerNote) → ℕ
bytes_in entries = in_notes took_of entries

-- how many lines a text has whose every line ends with a line feed
abbrev pub line_feeds : List ℕ → ℕ
line_feeds text = count_by (λ byte. byte == 10) text

-- how many lines a note has, and the notes of a journal
abbrev pub lines_of_note : ServerNote → ℕ
lines_of_note said = line_feeds (note_lines said)

abbrev pub lines_in : List (Entry ServerNote) → ℕ
lines_in entries = line_feeds (journal_lines entries)

-- A number is told in 64 bits. One that is too large is told as the largest of them.
abbrev pub told : ℕ → ℕ
told number = min number (2 ^ 64 - 1)

-- the summary tells these numbers of connections, records, bytes and lines
pub record Tells (summary : Summary) (c r b l : ℕ) : Type 0 where
  pub connections : summary.connections ≡ told c
  pub records : summary.records ≡ told r
  pub bytes : summary.bytes ≡ told b
  pub lines : summary.lines ≡ told l

-- the summary is that of these entries
abbrev pub Summarizes : Summary → List (Entry ServerNote) → Type 0
Summarizes summary entries = Tells summary (connections_in entries) (records_in entries)
    (bytes_in entries) (lines_in entries)

-- a line of a word and a number, and the four lines of these numbers
abbrev pub line_of : List ℕ → ℕ → List ℕ
line_of word number = word ++ decimal number ++ codes "\n"

abbrev pub four_lines : ℕ → ℕ → ℕ → ℕ → List ℕ
four_lines c r b l = line_of (codes "connections ") c ++ line_of (codes "records ") r
    ++ line_of (codes "bytes ") b ++ line_of (codes "lines ") l

-- the lines of a summary
abbrev pub summary_text : Summary → List ℕ
summary_text summary = four_lines summary.connections summary.records summary.bytes summary.lines
