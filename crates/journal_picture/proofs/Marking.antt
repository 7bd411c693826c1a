-- The marks of a journal, entry by entry.
use Rattle.std.proofs.Common.{◌≡◌, ◌∙◌, ℕ, List, [], ◌∷◌, ◌++◌, length, map, refl, sym, ap, arith}
use Rattle.std.proofs.Common.{length-append}
use Rattle.std.specs.Prelude.{flat_map}
use Rattle.std.proofs.lemmas.List.{map-append, reverse-append, reverse-reverse, length-reverse}
use Rattle.reactor_journal.specs.declared.entry.Entry.{Entry}
use Rattle.reactor_journal.specs.Past.{past_of}
use Rattle.log_handler.specs.declared.note.ServerNote.{ServerNote}
use Rattle.journal_picture.specs.declared.layout.Layout.{Layout}
use Rattle.journal_picture.specs.Places.{tables, place_in}
use Rattle.journal_picture.specs.Marks.{marks, text_of}
use Rattle.journal_picture.specs.Laws.{entry_of, number_of, first_numbers, MarksEach}

-- the text of the marks of the first entries
abbrev pub marks_text : Layout → ℕ → List (Entry ServerNote) → List ℕ
marks_text layout handles past = flat_map (text_of layout) (marks handles past)

-- ---- one mark for each entry

entries_marked : (handles : ℕ) (past : List (Entry ServerNote))
    → map entry_of (marks handles past) ≡ past_of past
entries_marked handles [] = refl
entries_marked handles (e ∷ past) =
    map-append entry_of (marks handles past)
    (record { place = place_in handles (tables handles past) e; entry = e } ∷ [])
    ∙ ap (λ (es : List (Entry ServerNote)). es ++ e ∷ []) (entries_marked handles past)
    ∙ sym (reverse-append (e ∷ []) past)

pub lanes_counted : (handles : ℕ) (past : List (Entry ServerNote))
    → length (tables handles past).lanes ≡ length past
lanes_counted handles [] = refl
lanes_counted handles (e ∷ past) =
    let more = length-append (tables handles past).lanes
    ((place_in handles (tables handles past) e).lane ∷ []) in
    omega (arith, lanes_counted handles past)

numbers_marked : (handles : ℕ) (past : List (Entry ServerNote))
    → map number_of (marks handles past) ≡ first_numbers (length past)
numbers_marked handles [] = refl
numbers_marked handles (e ∷ past) =
    map-append number_of (marks handles past)
    (record { place = place_in handles (tables handles past) e; entry = e } ∷ [])
    ∙ ap (λ (ns : List ℕ). ns ++ length (tables handles past).lanes ∷ [])
    (numbers_marked handles past)
    ∙ ap (λ (n : ℕ). first_numbers (length past) ++ n ∷ []) (lanes_counted handles past)

pub marks_each : (handles : ℕ) (journal : List (Entry ServerNote)) → MarksEach handles journal
marks_each handles journal = record {
  entries = entries_marked handles (past_of journal) ∙ reverse-reverse journal;
  numbers = numbers_marked handles (past_of journal) ∙ ap first_numbers (length-reverse journal);
}
