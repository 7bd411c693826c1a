-- The text of a journal has one reading, and any other text one first bad line.
use Rattle.std.proofs.Common.{◌≡◌, ◌∙◌, ℕ, ◌<◌, inl, inr, List, [], ◌∷◌, ◌++◌, length, drop, refl}
use Rattle.std.proofs.Common.{sym, ap, ap₂, arith, append_assoc, length-append}
use Rattle.std.specs.List.{AllByRecursion}
use Rattle.reactor_model.specs.reactor_journal.specs.declared.entry.Entry.{Entry}
use Rattle.log_handler.specs.declared.note.ServerNote.{ServerNote}
use Rattle.journal_text.specs.Texts.{most_line, entry_line, entry_lines}
use Rattle.journal_reader.specs.Limits.{IsMost, EntryIsWithin}
use Rattle.journal_reader.specs.Journals.{first_line, IsJournalText, IsBadAt, BreaksOffAt}
use Rattle.journal_reader.specs.Journals.{BeginsWithNoMost, BeginsWithNoEntry}
use Rattle.journal_reader.proofs.FirstLines.{most_first, entry_first, same_most, same_entry}
use Rattle.journal_reader.proofs.JournalRead.{entry_some}

abbrev Entries : Type 0
Entries = List (Entry ServerNote)

abbrev Within : Entries → Type 0
Within entries = AllByRecursion EntryIsWithin entries

behind : (line a b : List ℕ) → line ++ a ≡ line ++ b → a ≡ b
behind [] a b is = is
behind (x ∷ line) a b is = behind line a b (ap (drop 1) is)

-- what two texts that begin with entries have in common
both_first : (x y : Entry ServerNote) (a b : List ℕ) → EntryIsWithin x → EntryIsWithin y
    → entry_line x ++ a ≡ entry_line y ++ b → (x ≡ y) × (a ≡ b)
both_first x y a b p q is =
    let lines : entry_line x ≡ entry_line y =
    sym (entry_first x a p) ∙ ap first_line is ∙ entry_first y b q in (
      same_entry x y p q lines,
      behind (entry_line x) a b
          (is ∙ ap (λ (l : List ℕ). l ++ b) (sym lines)),
    )

none_left : (e : Entry ServerNote) (rest : List ℕ) → [] ≡ entry_line e ++ rest → ⊥
none_left e rest is = omega (arith, ap length is, length-append (entry_line e) rest, entry_some e)

same_entries : (a b : Entries) → Within a → Within b → entry_lines a ≡ entry_lines b → a ≡ b
same_entries [] [] p q is = refl
same_entries [] (y ∷ b) p q is = absurd (none_left y (entry_lines b) is)
same_entries (x ∷ a) [] p q is = absurd (none_left x (entry_lines a) (sym is))
same_entries (x ∷ a) (y ∷ b) p q is =
    let both = both_first x y (entry_lines a) (entry_lines b) p.0 q.0 is in
    ap₂ ◌∷◌ both.0 (same_entries a b p.1 q.1 both.1)

-- what two texts that begin with a line `most N` have in common
both_most : (m n : ℕ) (a b : List ℕ) → IsMost m → IsMost n → most_line m ++ a ≡ most_line n ++ b
    → (m ≡ n) × (a ≡ b)
both_most m n a b p q is =
    let lines : most_line m ≡ most_line n =
    sym (most_first m a p) ∙ ap first_line is ∙ most_first n b q in (
      same_most m n p q lines,
      behind (most_line m) a b
          (is ∙ ap (λ (l : List ℕ). l ++ b) (sym lines)),
    )

pub same_journal : (text : List ℕ) (m n : ℕ) (a b : Entries) → IsJournalText text m a
    → IsJournalText text n b → (m ≡ n) × (a ≡ b)
same_journal text m n a b s t =
    let both = both_most m n (entry_lines a) (entry_lines b) s.most_within t.most_within
    (sym s.spelt ∙ t.spelt) in
    (both.0, same_entries a b s.within t.within both.1)

-- a text that begins with a journal's text begins with its first line
begun : (text front rest : List ℕ) (m : ℕ) (a : Entries) → text ≡ front ++ rest
    → IsJournalText front m a → text ≡ most_line m ++ (entry_lines a ++ rest)
begun text front rest m a is s = is ∙ ap (λ (f : List ℕ). f ++ rest) s.spelt
    ∙ append_assoc (most_line m) (entry_lines a) rest

-- no entry's lines hold a bad line
no_bad_among : (good a : Entries) (rest : List ℕ) → Within good → Within a
    → entry_lines good ++ rest ≡ entry_lines a → 0 < length rest → BeginsWithNoEntry rest → ⊥
no_bad_among [] [] rest p q is some bad = omega (arith, ap length is)
no_bad_among [] (y ∷ a) rest p q is some bad =
    bad y q.0 (ap first_line is ∙ entry_first y (entry_lines a) q.0)
no_bad_among (x ∷ good) [] rest p q is some bad =
    none_left x (entry_lines good ++ rest)
    (sym is ∙ append_assoc (entry_line x) (entry_lines good) rest)
no_bad_among (x ∷ good) (y ∷ a) rest p q is some bad =
    let both = both_first x y (entry_lines good ++ rest) (entry_lines a) p.0 q.0
    (sym (append_assoc (entry_line x) (entry_lines good) rest) ∙ is) in
    no_bad_among good a rest p.1 q.1 both.1 some bad

pub no_bad_line : (text : List ℕ) (m n : ℕ) (a : Entries) → IsJournalText text m a → IsBadAt text n
    → ⊥
no_bad_line text m n a s (inl bad) =
    bad.0 m s.most_within (ap first_line s.spelt ∙ most_first m (entry_lines a) s.most_within)
no_bad_line text m n a s (inr b) =
    let both = both_most b.most m (entry_lines b.entries ++ b.rest) (entry_lines a)
    b.good.most_within s.most_within (sym
    (begun text b.front b.rest b.most b.entries b.is b.good) ∙ s.spelt) in
    no_bad_among b.entries a b.rest b.good.within s.within both.1 b.more b.bad

-- two bad lines stand after as many good ones
same_place : (a b : Entries) (r t : List ℕ) → Within a → Within b
    → entry_lines a ++ r ≡ entry_lines b ++ t → BeginsWithNoEntry r → BeginsWithNoEntry t
    → length a ≡ length b
same_place [] [] r t p q is bad worse = refl
same_place [] (y ∷ b) r t p q is bad worse =
    absurd (bad y q.0 (ap first_line (is ∙ append_assoc (entry_line y) (entry_lines b) t)
    ∙ entry_first y (entry_lines b ++ t) q.0))
same_place (x ∷ a) [] r t p q is bad worse =
    absurd (worse x p.0 (ap first_line (sym is ∙ append_assoc (entry_line x) (entry_lines a) r)
    ∙ entry_first x (entry_lines a ++ r) p.0))
same_place (x ∷ a) (y ∷ b) r t p q is bad worse =
    let both = both_first x y (entry_lines a ++ r) (entry_lines b ++ t) p.0 q.0
    (sym (append_assoc (entry_line x) (entry_lines a) r) ∙ is
    ∙ append_assoc (entry_line y) (entry_lines b) t) in
    omega (arith, same_place a b r t p.1 q.1 both.1 bad worse)

most_stands : (text : List ℕ) (n : ℕ) → BeginsWithNoMost text → BreaksOffAt text n → ⊥
most_stands text n bad b =
    bad b.most b.good.most_within (ap first_line
    (begun text b.front b.rest b.most b.entries b.is b.good)
    ∙ most_first b.most (entry_lines b.entries ++ b.rest) b.good.most_within)

pub same_bad_line : (text : List ℕ) (m n : ℕ) → IsBadAt text m → IsBadAt text n → m ≡ n
same_bad_line text m n (inl a) (inl b) = a.1 ∙ sym b.1
same_bad_line text m n (inl a) (inr b) = absurd (most_stands text n a.0 b)
same_bad_line text m n (inr a) (inl b) = absurd (most_stands text m b.0 a)
same_bad_line text m n (inr a) (inr b) =
    let both = both_most a.most b.most (entry_lines a.entries ++ a.rest)
    (entry_lines b.entries ++ b.rest) a.good.most_within b.good.most_within
    (sym (begun text a.front a.rest a.most a.entries a.is a.good)
    ∙ begun text b.front b.rest b.most b.entries b.is b.good) in
    omega (
      arith,
      a.counts,
      b.counts,
      same_place a.entries b.entries a.rest b.rest a.good.within
          b.good.within both.1 a.bad b.bad,
    )
