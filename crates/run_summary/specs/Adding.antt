-- What one note more, or one entry more, does to a summary.
use Rattle.std.specs.Prelude.{ℕ, ◌+◌, length}
use Rattle.reactor_journal.specs.declared.entry.Entry.{Entry}
use Rattle.log_handler.specs.declared.note.ServerNote.{ServerNote}
use Rattle.log_handler.specs.Laws.{took_of, records_of_note}
use Rattle.run_summary.specs.declared.summary.Summary.{Summary}
use Rattle.run_summary.specs.Summaries.{of_note, acceptances, lines_of_note, Tells}

-- whatever the summary told, it tells that and what one note more has
abbrev pub Adds : Summary → ServerNote → Summary → Type 0
Adds old said new =
    (c r b l : ℕ) → Tells old c r b l
    → Tells new (c + acceptances said) (r + length (records_of_note said)) (b + took_of said)
    (l + lines_of_note said)

-- so it is with the note of one entry more, if it has one
abbrev pub AddsEntry : Summary → Entry ServerNote → Summary → Type 0
AddsEntry old e new =
    (c r b l : ℕ) → Tells old c r b l
    → Tells new (c + of_note acceptances e) (r + of_note (λ said. length (records_of_note said)) e)
    (b + of_note took_of e) (l + of_note lines_of_note e)
