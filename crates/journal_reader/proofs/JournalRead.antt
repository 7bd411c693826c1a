-- A journal, read line by line.
use Rattle.std.proofs.Common.{◌≡◌, ◌∙◌, ℕ, ◌+◌, ◌<◌, ◌≤◌, List, [], ◌∷◌, ◌++◌, length, decimal}
use Rattle.std.proofs.Common.{codes, sym, ap, arith, append_assoc, append-nil, length-append}
use Rattle.std.specs.List.{AllByRecursion}
use Rattle.std.proofs.lemmas.Grind.{flat_map-append}
use Rattle.reactor_model.specs.reactor_journal.specs.declared.entry.Entry.{Entry}
use Rattle.log_handler.specs.declared.note.ServerNote.{ServerNote}
use Rattle.journal_text.specs.Texts.{most_line, entry_text, entry_line, entry_lines, journal_text}
use Rattle.journal_reader.specs.Limits.{IsMost, EntryIsWithin}
use Rattle.journal_reader.specs.Journals.{IsJournalText, BreaksOffAt, BeginsWithNoEntry}

-- so many lines were read, each good, and this text is left
pub record HasRead (text rest : List ℕ) (line most : ℕ) (entries : List (Entry ServerNote)) : Type 0
  where
    pub front : List ℕ
    pub is : text ≡ front ++ rest
    pub good : IsJournalText front most entries
    pub counts : line ≡ length entries + 1
    pub within : line + length rest ≤ length text

most_some : (most : ℕ) → 1 ≤ length (most_line most)
unfolding most_line
most_some most = omega (arith, length-append (codes "most " ++ decimal most) (codes "\n"))

pub entry_some : (e : Entry ServerNote) → 1 ≤ length (entry_line e)
unfolding entry_line
entry_some e = omega (arith, length-append (entry_text e) (codes "\n"))

pub begins : (text rest : List ℕ) (most : ℕ) → text ≡ most_line most ++ rest → IsMost most
    → HasRead text rest 1 most []
begins text rest most is within = record {
  front = most_line most;
  is = is;
  good = record { spelt = sym (append-nil (most_line most)); most_within = within; within = tt };
  counts = omega arith;
  within = omega (arith, ap length is, length-append (most_line most) rest, most_some most);
}

all_more : (entries : List (Entry ServerNote)) (e : Entry ServerNote)
    → AllByRecursion EntryIsWithin entries → EntryIsWithin e
    → AllByRecursion EntryIsWithin (entries ++ e ∷ [])
all_more [] e all one = (one, tt)
all_more (x ∷ entries) e all one = (all.0, all_more entries e all.1 one)

one_more : (most : ℕ) (entries : List (Entry ServerNote)) (e : Entry ServerNote)
    → journal_text most (entries ++ e ∷ []) ≡ journal_text most entries ++ entry_line e
one_more most entries e =
    ap (λ (lines : List ℕ). most_line most ++ lines)
    (flat_map-append entry_line entries (e ∷ [])
    ∙ ap (λ (line : List ℕ). entry_lines entries ++ line) (append-nil (entry_line e)))
    ∙ sym (append_assoc (most_line most) (entry_lines entries) (entry_line e))

pub goes_on : (text rest behind : List ℕ) (line most : ℕ) (entries : List (Entry ServerNote))
    (e : Entry ServerNote) → HasRead text rest line most entries → rest ≡ entry_line e ++ behind
    → EntryIsWithin e
    → HasRead text behind (line + 1) most (entries ++ e ∷ [])
goes_on text rest behind line most entries e r is within = record {
  front = r.front ++ entry_line e;
  is = r.is ∙ ap (λ (t : List ℕ). r.front ++ t) is
      ∙ sym (append_assoc r.front (entry_line e) behind);
  good = record {
    spelt = ap (λ (t : List ℕ). t ++ entry_line e) r.good.spelt ∙ sym (one_more most entries e);
    most_within = r.good.most_within;
    within = all_more entries e r.good.within within;
  };
  counts = omega (arith, r.counts, length-append entries (e ∷ []));
  within = omega (arith, r.within, ap length is, length-append (entry_line e) behind, entry_some e);
}

pub breaks_off : (text rest : List ℕ) (line most : ℕ) (entries : List (Entry ServerNote))
    → HasRead text rest line most entries → 0 < length rest → BeginsWithNoEntry rest
    → BreaksOffAt text (line + 1)
breaks_off text rest line most entries r some bad = record {
  front = r.front;
  rest = rest;
  is = r.is;
  most = most;
  entries = entries;
  good = r.good;
  more = some;
  bad = bad;
  counts = omega (arith, r.counts);
}

pub ends : (text rest : List ℕ) (line most : ℕ) (entries : List (Entry ServerNote))
    → HasRead text rest line most entries → length rest ≤ 0 → IsJournalText text most entries
ends text [] line most entries r none =
    record {
      spelt = r.is ∙ append-nil r.front ∙ r.good.spelt;
      most_within = r.good.most_within;
      within = r.good.within;
    }
ends text (x ∷ rest) line most entries r none = absurd (omega arith)

pub shorter : (rest behind : List ℕ) (e : Entry ServerNote) → rest ≡ entry_line e ++ behind
    → length behind < length rest
shorter rest behind e is = omega (
  arith,
  ap length is,
  length-append (entry_line e) behind,
  entry_some e,
)
