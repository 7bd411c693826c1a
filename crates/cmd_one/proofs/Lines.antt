-- The lines of a journal whose notes are those of one connection.
use Rattle.std.proofs.Common.{ℕ, ◌≡◌, List, [], ◌∷◌, ◌++◌, map, refl, sym, ap, ◌∙◌}
use Rattle.std.specs.Prelude.{flat_map}
use Rattle.std.specs.List.{AllByRecursion}
use Rattle.std.proofs.lemmas.List.{append-nil}
use Rattle.std.proofs.lemmas.Grind.{flat_map-append}
use Rattle.reactor_model.specs.reactor_journal.specs.Event.{Item}
use Rattle.reactor_model.specs.reactor_journal.specs.declared.entry.Entry.{Entry}
use Rattle.reactor_model.specs.reactor_journal.specs.declared.entry.Entry.TheVariants.{Opened}
use Rattle.reactor_model.specs.reactor_journal.specs.declared.entry.Entry.TheVariants.{Scheduled}
use Rattle.reactor_model.specs.reactor_journal.specs.declared.entry.Entry.TheVariants.{Cancelled}
use Rattle.reactor_model.specs.reactor_journal.specs.declared.entry.Entry.TheVariants.{Polled, Due}
use Rattle.reactor_model.specs.reactor_journal.specs.declared.entry.Entry.TheVariants.{Ready}
use Rattle.reactor_model.specs.reactor_journal.specs.declared.entry.Entry.TheVariants.{Posted}
use Rattle.reactor_model.specs.reactor_journal.specs.declared.entry.Entry.TheVariants.{Stale}
use Rattle.reactor_model.specs.reactor_journal.specs.declared.entry.Entry.TheVariants.{Started}
use Rattle.reactor_model.specs.reactor_journal.specs.declared.entry.Entry.TheVariants.{Returned}
use Rattle.reactor_model.specs.reactor_journal.specs.declared.entry.Entry.TheVariants.{Masked}
use Rattle.reactor_model.specs.reactor_journal.specs.declared.entry.Entry.TheVariants.{Suspended}
use Rattle.reactor_model.specs.reactor_journal.specs.declared.entry.Entry.TheVariants.{Resumed}
use Rattle.reactor_model.specs.reactor_journal.specs.declared.entry.Entry.TheVariants.{Refused}
use Rattle.reactor_model.specs.reactor_journal.specs.declared.entry.Entry.TheVariants.{Removed}
use Rattle.reactor_model.specs.reactor_journal.specs.declared.entry.Entry.TheVariants.{Closed}
use Rattle.reactor_model.specs.reactor_journal.specs.declared.entry.Entry.TheVariants.{Ended}
use Rattle.log_handler.specs.log_lines.specs.Texts.{record_line, record_lines}
use Rattle.log_handler.specs.declared.note.ServerNote.{ServerNote}
use Rattle.log_handler.specs.Notes.{note_lines, entry_lines, journal_lines}
use Rattle.log_handler.specs.Laws.{IsPieceOf, records_of_note, records_in}
use Rattle.one_run.specs.Phases.{entry_notes, notes_in, note_of}
use Rattle.cmd_one.specs.Outcome.{IsPiece}

entry_by_notes : (e : Entry ServerNote) → entry_lines e ≡ flat_map note_lines (entry_notes e)
entry_by_notes (Returned event answer said) = sym (append-nil (note_lines said))
entry_by_notes (Refused live fault said) = sym (append-nil (note_lines said))
entry_by_notes (Closed handle said) = sym (append-nil (note_lines said))
entry_by_notes (Opened handle mask) = refl
entry_by_notes (Scheduled timer handle first every) = refl
entry_by_notes (Cancelled timer) = refl
entry_by_notes (Polled now) = refl
entry_by_notes (Due timer) = refl
entry_by_notes (Ready handle kind) = refl
entry_by_notes (Posted handle kind from seq) = refl
entry_by_notes (Stale handle from seq) = refl
entry_by_notes (Started event) = refl
entry_by_notes (Masked handle mask) = refl
entry_by_notes (Suspended handle) = refl
entry_by_notes (Resumed handle) = refl
entry_by_notes (Removed handle) = refl
entry_by_notes Ended = refl

-- the lines of a journal are those of its notes
pub lines_by_notes : (journal : List (Entry ServerNote))
    → journal_lines journal ≡ flat_map note_lines (notes_in journal)
lines_by_notes [] = refl
lines_by_notes (e ∷ rest) =
    ap (λ (lines : List ℕ). lines ++ journal_lines rest) (entry_by_notes e)
    ∙ (ap (λ (lines : List ℕ). flat_map note_lines (entry_notes e) ++ lines) (lines_by_notes rest)
    ∙ sym (flat_map-append note_lines (entry_notes e) (notes_in rest)))

-- the notes of turns of connection 0
pub pieces_of : (had : List (Item ServerNote)) → AllByRecursion (IsPieceOf 0) had
    → AllByRecursion IsPiece (map note_of had)
pieces_of [] all = tt
pieces_of (item ∷ had) all = (all.0, pieces_of had all.1)

-- their lines are those of their records
pub lines_of_pieces : (pieces : List ServerNote) → AllByRecursion IsPiece pieces
    → flat_map note_lines pieces ≡ record_lines 0 (flat_map records_of_note pieces)
lines_of_pieces [] all = refl
lines_of_pieces (said ∷ pieces) all =
    ap (λ (lines : List ℕ). note_lines said ++ lines) (lines_of_pieces pieces all.1)
    ∙ (ap (λ (lines : List ℕ). lines ++ record_lines 0 (flat_map records_of_note pieces))
    (ap note_lines all.0.2 ∙ sym (ap (λ (said : ServerNote).
    record_lines 0 (records_of_note said)) all.0.2))
    ∙ sym (flat_map-append (record_line 0) (records_of_note said)
    (flat_map records_of_note pieces)))

pub records_of_turns : (had : List (Item ServerNote))
    → flat_map records_of_note (map note_of had) ≡ flat_map records_in had
records_of_turns [] = refl
records_of_turns (item ∷ had) = ap (λ rest. records_in item ++ rest) (records_of_turns had)
