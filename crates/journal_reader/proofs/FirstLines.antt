-- The first line of a text.
use Rattle.std.proofs.Common.{◌≡◌, ◌∙◌, ℕ, suc, ◌+◌, ◌<◌, ◌≤◌, Bool, true, false, not, cond, ltb}
use Rattle.std.proofs.Common.{◌==◌, List, [], ◌∷◌, ◌++◌, length, take, drop, decimal, codes, Option}
use Rattle.std.proofs.Common.{Some, None, refl, sym, ap, subst, arith, length-append, inl, inr}
use Rattle.std.proofs.Common.{nat_le, ◌&&◌}
use Rattle.std.specs.Prelude.{◌^◌}
use Rattle.std.specs.List.{position_or_len, list_all}
use Rattle.std.proofs.lemmas.Bool.{and_parts, eqb-true}
use Rattle.std.proofs.lemmas.Bool.Decides.{nat_tests}
use Rattle.std.proofs.lemmas.List.Splits.{join_with_byte-slice_split}
use Rattle.std.specs.List.{join_with_byte}
use Rattle.reactor_model.specs.reactor_journal.specs.declared.entry.Entry.{Entry}
use Rattle.log_handler.specs.declared.note.ServerNote.{ServerNote}
use Rattle.journal_text.specs.Texts.{most_line, entry_text, entry_line}
use Rattle.journal_reader.specs.Limits.{IsMost, EntryIsWithin}
use Rattle.journal_reader.specs.Journals.{first_line, BeginsWithNoMost, BeginsWithNoEntry}
use Rattle.std.specs.Str.{bytes_eq}
use Rattle.text_parts.specs.Parts.{parts}
use Rattle.journal_reader.specs.Reading.{next, at_end, number_of, limited, most_of, entry_of, ◌>>=◌}
use Rattle.text_parts.proofs.Cuts.{Free}
use Rattle.journal_reader.proofs.Joins.{AllPlain, parts_joined, all_free, free_joined, plain_number}
use Rattle.journal_reader.proofs.Spelled.{took, chosen, value_is, any_word, numbers}
use Rattle.journal_reader.proofs.RecordWords.{ended}
use Rattle.journal_reader.proofs.EntryWords.{entry_all, entry_only, one_line}

-- ---- where the first line feed stands

abbrev feed : List ℕ → ℕ
feed text = position_or_len (λ b. b == 10) text

abbrev pub LineAt : List ℕ → Option ℕ → Type 0
LineAt text None = (line : List ℕ) → first_line text ≡ line ++ codes "\n" → ⊥
LineAt text (Some at) = (at < length text) × (first_line text ≡ take at text ++ codes "\n")
    × (text ≡ (take at text ++ codes "\n") ++ drop (at + 1) text)

record FeedAt (text : List ℕ) (at : ℕ) : Type 0 where
  pub line : first_line text ≡ take at text ++ codes "\n"
  pub all : text ≡ (take at text ++ codes "\n") ++ drop (suc at) text

here : (b : Bool) (x : ℕ) (xs : List ℕ) → (x == 10) ≡ b
    → (feed xs < length xs → FeedAt xs (feed xs)) → cond (not b) (1 + feed xs) 0 < suc (length xs)
    → FeedAt (x ∷ xs) (cond (not b) (1 + feed xs) 0)
here true x xs is rest lt =
    let same : x ≡ 10 = eqb-true x 10 is in
    record {
      line = ap (λ t. x ∷ cond t [] (first_line xs)) is ∙ ap (λ (y : ℕ). y ∷ []) same;
      all = ap (λ (y : ℕ). y ∷ xs) same;
    }
here false x xs is rest lt =
    let more = rest (omega (arith, lt)) in
    let next : 1 + feed xs ≡ suc (feed xs) = omega arith in
    subst (FeedAt (x ∷ xs)) (sym next)
    (record {
      line = ap (λ t. x ∷ cond t [] (first_line xs)) is
          ∙ ap (λ (l : List ℕ). x ∷ l) more.line;
      all = ap (λ (l : List ℕ). x ∷ l) more.all;
    })

found : (text : List ℕ) → feed text < length text → FeedAt text (feed text)
found [] lt = absurd (omega (arith, lt))
found (x ∷ xs) lt = here (x == 10) x xs refl (found xs) lt

none_here : (b : Bool) (x : ℕ) (xs line : List ℕ) → (x == 10) ≡ b
    → ((line : List ℕ) → length xs ≤ feed xs → first_line xs ≡ line ++ codes "\n" → ⊥)
    → suc (length xs) ≤ cond (not b) (1 + feed xs) 0
    → x ∷ cond b [] (first_line xs) ≡ line ++ codes "\n" → ⊥
none_here true x xs line is rest le h = omega (arith, le)
none_here false x xs [] is rest le h = let same : x ≡ 10 = cc in grind (arith, nat_tests)
none_here false x xs (y ∷ line) is rest le h = let tail : first_line xs ≡ line ++ codes "\n" =
    ap (drop 1) h in rest line (omega (arith, le)) tail

not_found : (text line : List ℕ) → length text ≤ feed text → first_line text ≡ line ++ codes "\n"
    → ⊥
not_found [] [] le h = cc h
not_found [] (y ∷ line) le h = cc h
not_found (x ∷ xs) line le h = none_here (x == 10) x xs line refl (not_found xs) le h

by_test : (b : Bool) (text : List ℕ) → ltb (feed text) (length text) ≡ b
    → LineAt text (cond b (Some (feed text)) None)
by_test true text e =
    let lt : feed text < length text = grind (arith, nat_tests) in
    let at = found text lt in
    let next : feed text + 1 ≡ suc (feed text) = omega arith in (
      lt,
      at.line,
      at.all ∙ ap (λ (n : ℕ). (take (feed text) text ++ codes "\n") ++ drop n text)
          (sym next),
    )
by_test false text e = λ line h. not_found text line (grind (arith, nat_tests)) h

pub line_at : (text : List ℕ) → LineAt text
    (cond (ltb (feed text) (length text)) (Some (feed text)) None)
line_at text = by_test _ text refl

-- ---- the line `most N`

pub same_front : (a b : List ℕ) → a ++ codes "\n" ≡ b ++ codes "\n" → a ≡ b
same_front [] [] h = refl
same_front [] (y ∷ b) h = let tail : [] ≡ b ++ codes "\n" = ap (drop 1) h in
    absurd (omega (arith, ap length tail, length-append b (codes "\n")))
same_front (x ∷ a) [] h = let tail : a ++ codes "\n" ≡ [] = ap (drop 1) h in
    absurd (omega (arith, ap length tail, length-append a (codes "\n")))
same_front (x ∷ a) (y ∷ b) h =
    let head : x ≡ y = cc in
    ap (λ (z : ℕ). z ∷ a) head ∙ ap (λ (l : List ℕ). y ∷ l) (same_front a b (ap (drop 1) h))

abbrev most_text : ℕ → List ℕ
most_text most = codes "most " ++ decimal most

abbrev most_at : List (List ℕ) → Option ℕ
most_at ps = next Some ps >>= λ name. next number_of name.1 >>= λ most.
    at_end most.1 (cond (bytes_eq name.0 (codes "most")) (limited most.0) None)

most_is : (line : List ℕ) → most_of line ≡ most_at (parts 32 line)
unfolding most_of
most_is line = refl

abbrev most_words : ℕ → List (List ℕ)
most_words most = codes "most" ∷ decimal most ∷ []

most_plain : (most : ℕ) → most < 2 ^ 64 → AllPlain (most_words most)
most_plain most small = (refl, (plain_number most small, tt))

most_all : (most : ℕ) → IsMost most → most_of (most_text most) ≡ Some most
most_all most is =
    let small : most < 2 ^ 64 = omega (arith, is.0, is.1) in
    let words : parts 32 (most_text most) ≡ codes "most" ∷ decimal most ∷ [] =
    parts_joined 32 (codes "most") (decimal most ∷ [])
    (all_free 32 (most_words most) (omega arith) (most_plain most small)) in
    let low : nat_le 1 most ≡ true = grind (arith, nat_tests, is.0) in
    let high : nat_le most 4097 ≡ true = grind (arith, nat_tests, is.1) in
    most_is (most_text most) ∙ ap most_at words ∙ rw (numbers.all most small, low, high) refl

limited_only : (n most : ℕ) → limited n ≡ Some most → (n ≡ most) × IsMost most
limited_only n most h = by_tests (nat_le 1 n) (nat_le n 4097) refl refl h
  where
    by_tests : (a b : Bool) → nat_le 1 n ≡ a → nat_le n 4097 ≡ b
        → cond (a && b) (Some n) None ≡ Some most → (n ≡ most) × IsMost most
    by_tests true true low high h =
        let is = value_is n most h in
        (is, subst IsMost is (grind (arith, nat_tests), grind (arith, nat_tests)))
    by_tests true false low high h = cc h
    by_tests false b low high h = cc h

most_only : (line : List ℕ) (most : ℕ) → most_of line ≡ Some most → (most_text most ≡ line)
    × IsMost most
unfolding most_of
most_only line most h =
    let name = took _ _ _ any_word (parts 32 line) _ most h in
    let number = took _ _ _ numbers name.rest _ most name.more in
    let last = ended number.rest _ most number.more in
    elim (chosen name.value (codes "most") _ _ most last.1) [
      | inl a ↦
          let l = limited_only number.value most a.1 in
          let words : codes "most" ∷ decimal most ∷ [] ≡ parts 32 line =
          ap (λ (n : ℕ). codes "most" ∷ decimal n ∷ []) (sym l.0)
          ∙ ap (λ (w : List ℕ). w ∷ decimal number.value ∷ []) (sym a.0)
          ∙ sym (name.is ∙ ap (λ (ws : List (List ℕ)). name.value ∷ ws)
          (number.is ∙ ap (λ (ws : List (List ℕ)). decimal number.value ∷ ws) last.0)) in
          (ap (join_with_byte 32) words ∙ join_with_byte-slice_split 32 line, l.1)
      | inr h ↦ cc h
    ]

most_line_is : (most : ℕ) → most_line most ≡ most_text most ++ codes "\n"
unfolding most_line
most_line_is most = refl

-- a text without a line feed
pub no_most : (text : List ℕ) → ((line : List ℕ) → first_line text ≡ line ++ codes "\n" → ⊥)
    → BeginsWithNoMost text
no_most text never = λ most within h. never (most_text most) (h ∙ most_line_is most)

pub no_most_line : (text line : List ℕ) → first_line text ≡ line ++ codes "\n" → most_of line ≡ None
    → BeginsWithNoMost text
no_most_line text line first is = λ most within h.
    let line_is : line ≡ most_text most =
    same_front line (most_text most) (sym first ∙ h ∙ most_line_is most) in
    cc (sym is ∙ ap most_of line_is ∙ most_all most within)

pub a_most_line : (text line rest : List ℕ) (most : ℕ) → text ≡ (line ++ codes "\n") ++ rest
    → most_of line ≡ Some most → (text ≡ most_line most ++ rest) × IsMost most
a_most_line text line rest most all is =
    let only = most_only line most is in (
      all ∙ ap (λ (l : List ℕ). (l ++ codes "\n") ++ rest) (sym only.0)
          ∙ ap (λ (l : List ℕ). l ++ rest) (sym (most_line_is most)),
      only.1,
    )

-- it is one line
most_free : (most : ℕ) → IsMost most → Free 10 (most_text most)
most_free most is =
    let small : most < 2 ^ 64 = omega (arith, is.0, is.1) in
    free_joined 10 32 (most_words most) refl
    (all_free 10 (most_words most) (omega arith) (most_plain most small))

-- ---- the line of an entry

entry_line_is : (e : Entry ServerNote) → entry_line e ≡ entry_text e ++ codes "\n"
unfolding entry_line
entry_line_is e = refl

pub no_entry : (text : List ℕ) → ((line : List ℕ) → first_line text ≡ line ++ codes "\n" → ⊥)
    → BeginsWithNoEntry text
no_entry text never = λ e within h. never (entry_text e) (h ∙ entry_line_is e)

pub no_entry_line : (text line : List ℕ) → first_line text ≡ line ++ codes "\n"
    → entry_of line ≡ None → BeginsWithNoEntry text
no_entry_line text line first is = λ e within h.
    let line_is : line ≡ entry_text e =
    same_front line (entry_text e) (sym first ∙ h ∙ entry_line_is e) in
    cc (sym is ∙ ap entry_of line_is ∙ entry_all e within)

pub an_entry_line : (text line rest : List ℕ) (e : Entry ServerNote)
    → text ≡ (line ++ codes "\n") ++ rest → entry_of line ≡ Some e → (text ≡ entry_line e ++ rest)
    × EntryIsWithin e
an_entry_line text line rest e all is =
    let only = entry_only line e is in (
      all ∙ ap (λ (l : List ℕ). (l ++ codes "\n") ++ rest) (sym only.0)
          ∙ ap (λ (l : List ℕ). l ++ rest) (sym (entry_line_is e)),
      only.1,
    )

-- ---- a line that stands first

is_first : (line rest : List ℕ) → Free 10 line
    → first_line ((line ++ codes "\n") ++ rest) ≡ line ++ codes "\n"
is_first [] rest free = refl
is_first (b ∷ line) rest free =
    let both = and_parts (not (b == 10)) (list_all (λ b. not (b == 10)) line) free in
    let other : (b == 10) ≡ false = grind (arith, nat_tests, both.0) in
    ap (λ t. b ∷ cond t [] (first_line ((line ++ codes "\n") ++ rest))) other
    ∙ ap (λ (l : List ℕ). b ∷ l) (is_first line rest both.1)

pub most_first : (most : ℕ) (rest : List ℕ) → IsMost most
    → first_line (most_line most ++ rest) ≡ most_line most
most_first most rest is =
    ap (λ (l : List ℕ). first_line (l ++ rest)) (most_line_is most)
    ∙ is_first (most_text most) rest (most_free most is) ∙ sym (most_line_is most)

pub entry_first : (e : Entry ServerNote) (rest : List ℕ) → EntryIsWithin e
    → first_line (entry_line e ++ rest) ≡ entry_line e
entry_first e rest is =
    ap (λ (l : List ℕ). first_line (l ++ rest)) (entry_line_is e)
    ∙ is_first (entry_text e) rest (one_line e is) ∙ sym (entry_line_is e)

-- a line has one reading
pub same_most : (m n : ℕ) → IsMost m → IsMost n → most_line m ≡ most_line n → m ≡ n
same_most m n a b is =
    let text : most_text m ≡ most_text n =
    same_front (most_text m) (most_text n) (sym (most_line_is m) ∙ is ∙ most_line_is n) in
    value_is m n (sym (most_all m a) ∙ ap most_of text ∙ most_all n b)

pub same_entry : (x y : Entry ServerNote) → EntryIsWithin x → EntryIsWithin y
    → entry_line x ≡ entry_line y → x ≡ y
same_entry x y a b is =
    let text : entry_text x ≡ entry_text y =
    same_front (entry_text x) (entry_text y) (sym (entry_line_is x) ∙ is ∙ entry_line_is y) in
    value_is x y (sym (entry_all x a) ∙ ap entry_of text ∙ entry_all y b)
