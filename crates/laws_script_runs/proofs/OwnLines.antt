-- The lines of one connection, entry by entry of the journal.
use Rattle.std.proofs.Common.{ℕ, suc, ◌≡◌, ◌==◌, Bool, true, false}
use Rattle.std.proofs.Common.{cond, ◌||◌, List, [], ◌∷◌, ◌++◌, refl, sym, ap, ◌∙◌}
use Rattle.std.proofs.Common.{append-nil}
use Rattle.std.specs.Prelude.{flat_map}
use Rattle.std.proofs.lemmas.Grind.{flat_map-append}
use Rattle.std.proofs.lemmas.Bool.{eq-eqb}
use Rattle.reactor_model.specs.ev_types.specs.declared.upcall.Handle.{Handle}
use Rattle.reactor_model.specs.ev_types.specs.declared.upcall.Answer.{Answer}
use Rattle.reactor_model.specs.reactor_journal.specs.Event.{Item}
use Rattle.reactor_model.specs.reactor_journal.specs.declared.entry.Entry.{Entry}
use Rattle.reactor_model.specs.reactor_journal.specs.declared.entry.Entry.TheVariants.{Returned}
use Rattle.reactor_model.specs.reactor_journal.specs.declared.entry.Entry.TheVariants.{Closed}
use Rattle.reactor_model.specs.reactor_journal.specs.Past.{closes, had, items_made, was_closed}
use Rattle.laws_script_told.specs.log_handler.specs.declared.note.ServerNote.{ServerNote}
use Rattle.laws_script_told.specs.log_handler.specs.declared.note.ServerNote.TheVariants as note
use Rattle.laws_script_told.specs.log_handler.specs.log_lines.specs.Texts.{record_lines}
use Rattle.laws_script_told.specs.log_handler.specs.log_lines.specs.Texts.{record_line}
use Rattle.laws_script_told.specs.log_handler.specs.log_lines.specs.Texts.{closing_line}
use Rattle.laws_script_told.specs.log_handler.specs.Notes.{note_lines}
use Rattle.laws_script_told.specs.log_handler.specs.Laws.{records_in, records_of_note}
use Rattle.laws_script_runs.specs.Connections.{lines_in}

-- those of all entries
abbrev pub back_lines : ℕ → List (Entry ServerNote) → List ℕ
back_lines c [] = []
back_lines c (e ∷ past) = back_lines c past ++ lines_in c e

-- those of the records that turns noted
abbrev pub recorded : ℕ → List (Item ServerNote) → List ℕ
recorded c items = record_lines c (flat_map records_in items)

pub recorded_more : (c : ℕ) (items : List (Item ServerNote)) (item : Item ServerNote)
    → recorded c (items ++ item ∷ []) ≡ recorded c items ++ record_lines c (records_in item)
recorded_more c items item =
    ap (record_lines c) (flat_map-append records_in items (item ∷ [])
    ∙ ap (λ (r : List _). flat_map records_in items ++ r) (append-nil (records_in item)))
    ∙ flat_map-append (record_line c) (flat_map records_in items) (records_in item)

-- how the lines stand: those of the turns so far, and once the connection was closed that of its
-- closing
pub data Lines (c : ℕ) (past : List (Entry ServerNote)) : Type 0 where
  going : was_closed past (suc c) ≡ false → back_lines c past ≡ recorded c (had past (suc c))
      → Lines c past
  ended_by : (later : List (Entry ServerNote)) (handle : Handle) (said : ServerNote)
      (before : List (Entry ServerNote)) → past ≡ later ++ Closed handle said ∷ before
      → handle.0 ≡ suc c → was_closed past (suc c) ≡ true
      → back_lines c past ≡ recorded c (had past (suc c)) ++ note_lines said → Lines c past

-- an entry that neither closes the connection nor is of it changes nothing
pub lines_same : (c : ℕ) (e : Entry ServerNote) (past : List (Entry ServerNote))
    → closes (suc c) e ≡ false → items_made past (suc c) e ≡ [] → lines_in c e ≡ [] → Lines c past
    → Lines c (e ∷ past)
lines_same c e past stays_ none quiet (going open_ is) =
    going (ap (λ (b : Bool). b || was_closed past (suc c)) stays_ ∙ open_)
    (ap (λ (l : List ℕ). back_lines c past ++ l) quiet ∙ append-nil (back_lines c past) ∙ is
    ∙ sym (ap (λ (i : List (Item ServerNote)). recorded c (had past (suc c) ++ i)) none
    ∙ ap (recorded c) (append-nil (had past (suc c)))))
lines_same c e past stays_ none quiet (ended_by later handle said before is mine shut lines) =
    ended_by (e ∷ later) handle said before (ap (λ (p : List (Entry ServerNote)). e ∷ p) is) mine
    (ap (λ (b : Bool). b || was_closed past (suc c)) stays_ ∙ shut)
    (ap (λ (l : List ℕ). back_lines c past ++ l) quiet ∙ append-nil (back_lines c past) ∙ lines
    ∙ ap (λ (l : List ℕ). l ++ note_lines said)
    (sym (ap (λ (i : List (Item ServerNote)). recorded c (had past (suc c) ++ i)) none
    ∙ ap (recorded c) (append-nil (had past (suc c))))))

pub piece_lines : (c k : ℕ) (event : ℕ) (answer : Answer) (said : ServerNote) (took : ℕ)
    (records : List _) → said ≡ note.Piece k took records → (k == c) ≡ false
    → lines_in c (Returned event answer said) ≡ []
piece_lines c k event answer said took records is other =
    ap (λ (s : ServerNote). lines_in c (Returned event answer s)) is
    ∙ ap (λ (b : Bool). cond b (record_lines k records) []) other

pub own_lines : (c k : ℕ) (event : ℕ) (answer : Answer) (said : ServerNote) (took : ℕ)
    (records : List _) → said ≡ note.Piece k took records → k ≡ c
    → lines_in c (Returned event answer said) ≡ record_lines c (records_of_note said)
own_lines c k event answer said took records is same =
    ap (λ (s : ServerNote). lines_in c (Returned event answer s)) is
    ∙ ap (λ (b : Bool). cond b (record_lines k records) []) (eq-eqb k c same)
    ∙ ap (λ (n : ℕ). record_lines n records) same
    ∙ sym (ap (λ (s : ServerNote). record_lines c (records_of_note s)) is)

pub finished_lines : (c d : ℕ) (handle : Handle) (said : ServerNote) (word : _)
    → said ≡ note.Finished d word → (d == c) ≡ false → lines_in c (Closed handle said) ≡ []
finished_lines c d handle said word is other =
    ap (λ (s : ServerNote). lines_in c (Closed handle s)) is
    ∙ ap (λ (b : Bool). cond b (closing_line d word) []) other

pub own_closing : (c : ℕ) (handle : Handle) (said : ServerNote) (word : _)
    → said ≡ note.Finished c word → lines_in c (Closed handle said) ≡ note_lines said
own_closing c handle said word is =
    ap (λ (s : ServerNote). lines_in c (Closed handle s)) is
    ∙ ap (λ (b : Bool). cond b (closing_line c word) []) (eq-eqb c c refl)
    ∙ sym (ap note_lines is)
