use Rattle.std.proofs.Common.{◌≡◌, ◌∙◌, Some, List, ap, refl}
use Rattle.reactor_model.specs.reactor_journal.specs.declared.entry.Entry.{Entry}
use Rattle.reactor_model.specs.reactor_journal.specs.declared.entry.Entry.TheVariants as entry
use Rattle.log_handler.specs.declared.note.ServerNote.{ServerNote}
use Rattle.journal_text.specs.Rows.{Named, name_in}
use Rattle.journal_text.specs.Tables.{names_in}
use Rattle.journal_text.specs.Texts.{entry_text}
use Rattle.journal_text.specs.Names.{kind_names, kind_number, first_word}
use Rattle.journal_text.proofs.tables.entry_kinds.Goals as goal

named : (e : Entry ServerNote) → name_in kind_names (kind_number e)
    ≡ Some (first_word (entry_text e))
unfolding entry_text
named (entry.Opened handle mask) = refl
named (entry.Scheduled timer handle first every) = refl
named (entry.Cancelled timer) = refl
named (entry.Polled now) = refl
named (entry.Due timer) = refl
named (entry.Ready handle kind) = refl
named (entry.Posted handle kind from seq) = refl
named (entry.Stale handle from seq) = refl
named (entry.Started event) = refl
named (entry.Returned event answer said) = refl
named (entry.Masked handle mask) = refl
named (entry.Suspended handle) = refl
named (entry.Resumed handle) = refl
named (entry.Refused live fault said) = refl
named (entry.Removed handle) = refl
named (entry.Closed handle said) = refl
named entry.Ended = refl

pub returns-clause-lines : goal.returns-clause-lines
returns-clause-lines c = λ e.
    let are : names_in c.new.result ≡ kind_names = c.new.ensures in
    ap (λ (rows : List Named). name_in rows (kind_number e)) are ∙ named e
