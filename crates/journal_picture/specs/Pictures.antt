-- The whole picture of a journal (this project's own).
use Rattle.std.specs.Prelude.{◌≡◌, ℕ, ◌+◌, List, [], ◌++◌, length, take, slice_get, Option, Some}
use Rattle.std.specs.Prelude.{None, flat_map, codes}
use Rattle.std.specs.List.{count_by}
use Rattle.ev_base.specs.Sink.{SinkFacts}
use Rattle.sink_buffer.specs.Written.{TakesAll, BreaksOff}
use Rattle.reactor_journal.specs.declared.entry.Entry.{Entry}
use Rattle.reactor_journal.specs.Past.{past_of, is_opened}
use Rattle.log_handler.specs.declared.note.ServerNote.{ServerNote}
use Rattle.journal_picture.specs.declared.layout.Layout.{Layout}
use Rattle.journal_picture.specs.declared.picture.Drawn.{Drawn}
use Rattle.journal_picture.specs.declared.picture.Drawn.TheVariants.{Whole, WriteFault, NoMemory}
use Rattle.journal_picture.specs.Layouts.{layout_of, across, bottom}
use Rattle.journal_picture.specs.Headers.{header}
use Rattle.journal_picture.specs.Marks.{marks, text_of, bad_mark}

-- the entries before the bad one, or all
abbrev pub good_part : List (Entry ServerNote) → Option ℕ → List (Entry ServerNote)
good_part journal None = journal
good_part journal (Some at) = take at journal

-- how many entries are drawn
abbrev pub drawn_count : List (Entry ServerNote) → Option ℕ → ℕ
drawn_count journal None = length journal
drawn_count journal (Some at) = at + 1

-- the mark of the bad entry, if there is one
abbrev pub bad_entry_mark : Layout → ℕ → Option (Entry ServerNote) → List ℕ
bad_entry_mark layout at None = []
bad_entry_mark layout at (Some e) = bad_mark (across layout at) (bottom layout) at e

abbrev pub bad_part : Layout → List (Entry ServerNote) → Option ℕ → List ℕ
bad_part layout journal None = []
bad_part layout journal (Some at) = bad_entry_mark layout at (slice_get journal at)

-- how many handles some entries opened
abbrev pub opened_in : List (Entry ServerNote) → ℕ
opened_in entries = count_by is_opened entries

-- the picture of so many entries: its begin, the marks of the good ones, in order, that of the bad
-- one, and its end
abbrev pub page : Layout → List (Entry ServerNote) → List ℕ → List ℕ
page layout good bad = header layout
    ++ flat_map (text_of layout) (marks layout.handles (past_of good)) ++ bad ++ codes "</svg>\n"

-- the layout of a journal's picture
abbrev pub layout_for : List (Entry ServerNote) → Option ℕ → Layout
layout_for journal bad = layout_of (drawn_count journal bad) (opened_in (good_part journal bad))

-- the picture of a journal, whose entry `bad` may not follow those before it
abbrev pub picture : List (Entry ServerNote) → Option ℕ → List ℕ
picture journal bad = page (layout_for journal bad) (good_part journal bad)
    (bad_part (layout_for journal bad) journal bad)

-- a picture was written, or a front of it, or nothing
abbrev pub Draws : SinkFacts → List ℕ → SinkFacts → Drawn → Type 0
Draws o text p Whole = TakesAll o text p
Draws o text p WriteFault = BreaksOff o text p
Draws o text p NoMemory = p ≡ o
