-- Values and their spellings: what a word is read as is spelt by that word, and what is spelt is
-- read again.
use Rattle.std.proofs.Common.{◌≡◌, ◌∙◌, ℕ, zero, suc, ◌-◌, ◌<◌, ◌⊎◌, inl, inr, nat_lt, nat_le, Bool}
use Rattle.std.proofs.Common.{true, false, ◌&&◌, cond, ◌==◌, List, [], ◌∷◌, length, get_or, decimal}
use Rattle.std.proofs.Common.{codes, Option, Some, None, refl, sym, ap, subst, arith}
use Rattle.std.specs.Prelude.{ℤ, pos, negsuc, ◌^◌, unwrap_or, option_map}
use Rattle.std.specs.Str.{bytes_eq}
use Rattle.std.specs.Fmt.{signed_decimal}
use Rattle.std.specs.Int.{w32, w64}
use Rattle.std.specs.Int.RustNames.{FitsSigned}
use Rattle.std.proofs.lemmas.Bool.Decides.{nat_tests}
use Rattle.std.proofs.lemmas.Fmt.{decimal_is_IsNumeral, decimal_nonempty}
use Rattle.std.specs.Str.Parse.{AllDigits}
use Rattle.std.proofs.lemmas.Str.Parse.{digit_from_value}
use Rattle.std.proofs.lemmas.Slice.Eq.{bytes_eq-Decides}
use Rattle.ev_types.specs.declared.upcall.Mask.{Mask}
use Rattle.ev_types.specs.declared.upcall.Kind.{Kind}
use Rattle.ev_types.specs.declared.upcall.Kind.TheVariants.{Read, Write, Except}
use Rattle.ev_types.specs.declared.upcall.Answer.{Answer}
use Rattle.ev_types.specs.declared.upcall.Answer.TheVariants.{Keep, Again, Close}
use Rattle.journal_text.specs.Texts.{mask_text, kind_text, answer_text, fault_text}
use Rattle.journal_reader.specs.Reading.{next, number_of, from_zero, below_zero, signed_of}
use Rattle.journal_reader.specs.Reading.{narrowed, narrow_of, letter_of, mask_of, kind_of}
use Rattle.journal_reader.specs.Reading.{answer_of, fault_of, ◌>>=◌}
use Rattle.journal_reader.proofs.Numbers.{number_all, number_only}

-- ---- answers

pub value_is : {A : Type 0} (a b : A) → Some a ≡ Some b → a ≡ b
value_is a b is = ap (λ o. unwrap_or o a) is

-- one of two answers was taken, by a name
by_name : {R : Type 0} (name word : List ℕ) (here other : Option R) (r : R) (b : Bool)
    → bytes_eq name word ≡ b → cond b here other ≡ Some r → ((name ≡ word) × (here ≡ Some r))
    ⊎ (other ≡ Some r)
by_name name word here other r true is h = inl ((bytes_eq-Decides name word).0 is, h)
by_name name word here other r false is h = inr h

pub chosen : {R : Type 0} (name word : List ℕ) (here other : Option R) (r : R)
    → cond (bytes_eq name word) here other ≡ Some r → ((name ≡ word) × (here ≡ Some r))
    ⊎ (other ≡ Some r)
chosen name word here other r h = by_name name word here other r _ refl h

-- a step that gave an answer, and the one before it
pub record Went {A R : Type 0} (first : Option A) (step : A → Option R) (r : R) : Type 0 where
  pub value : A
  pub is : first ≡ Some value
  pub more : step value ≡ Some r

pub went : {A R : Type 0} (first : Option A) (step : A → Option R) (r : R)
    → (first >>= step) ≡ Some r → Went first step r
went None step r h = cc h
went (Some a) step r h = record { value = a; is = refl; more = h }

-- ---- spelled values

pub record Spelled {V : Type 0} (value : List ℕ → Option V) (spell : V → List ℕ)
    (fits : V → Type 0) : Type 0 where
  pub all : (v : V) → fits v → value (spell v) ≡ Some v
  pub only : (word : List ℕ) (v : V) → value word ≡ Some v → (spell v ≡ word) × fits v

-- a value was read, and the steps after it went on
pub record Took {V R : Type 0} (spell : V → List ℕ) (fits : V → Type 0) (words : List (List ℕ))
    (step : V × List (List ℕ) → Option R) (r : R) : Type 0 where
  pub value : V
  pub rest : List (List ℕ)
  pub is : words ≡ spell value ∷ rest
  pub within : fits value
  pub more : step (value, rest) ≡ Some r

first_read : {V R : Type 0} (value : List ℕ → Option V) (spell : V → List ℕ) (fits : V → Type 0)
    → Spelled value spell fits → (word : List ℕ) (rest : List (List ℕ))
    (step : V × List (List ℕ) → Option R) (r : R)
    → (o : Option V) → value word ≡ o → (option_map (λ v. (v, rest)) o >>= step) ≡ Some r
    → Took spell fits (word ∷ rest) step r
first_read value spell fits s word rest step r None is h = cc h
first_read value spell fits s word rest step r (Some v) is h =
    let only = s.only word v is in
    record {
      value = v;
      rest = rest;
      is = ap (λ (w : List ℕ). w ∷ rest) (sym only.0);
      within = only.1;
      more = h;
    }

pub took : {V R : Type 0} (value : List ℕ → Option V) (spell : V → List ℕ) (fits : V → Type 0)
    → Spelled value spell fits → (words : List (List ℕ)) (step : V × List (List ℕ) → Option R)
    (r : R)
    → (next value words >>= step) ≡ Some r → Took spell fits words step r
took value spell fits s [] step r h = cc h
took value spell fits s (word ∷ rest) step r h =
    first_read value spell fits s word rest step r (value word) refl h

abbrev pub Always : {V : Type 0} → V → Type 0
Always v = Unit {0}

-- any word
pub any_word : Spelled Some (λ (w : List ℕ). w) Always
any_word = record { all = λ w _. refl; only = λ word v is. (sym (value_is word v is), tt) }

-- ---- numbers

pub numbers : Spelled number_of decimal (λ n. n < 2 ^ 64)
numbers = record { all = number_all; only = number_only }

signed_plain : (word : List ℕ) → 0 < length word → (get_or word 0 0 ≡ 45 → ⊥)
    → signed_of word ≡ from_zero (number_of word)
unfolding signed_of
signed_plain [] some sign = absurd (omega arith)
signed_plain (b ∷ bs) some sign = let other : (b == 45) ≡ false = grind (arith, nat_tests) in
    rw other refl

first_digit : (ds : List ℕ) → 0 < length ds → (d : ℕ) × (rest : List ℕ) × (ds ≡ d ∷ rest)
first_digit [] some = absurd (omega arith)
first_digit (d ∷ rest) some = (d, rest, refl)

no_sign : (n : ℕ) → n < 2 ^ 64 → get_or (decimal n) 0 0 ≡ 45 → ⊥
no_sign n small is =
    let k = decimal_is_IsNumeral n small in
    let f = first_digit (decimal n) k.0.0 in
    let digit = digit_from_value f.0 (subst (AllDigits 10) f.2 k.0.1).0 in
    let same : f.0 ≡ 45 = sym (ap (λ (ds : List ℕ). get_or ds 0 0) f.2) ∙ is in
    omega (arith, digit.0, same)

signed_all : (z : ℤ) → FitsSigned w64 z → signed_of (signed_decimal z) ≡ Some z
unfolding signed_of
signed_all (pos n) fits =
    let small : n < 2 ^ 63 = fits.sfits in
    let wide : n < 2 ^ 64 = omega arith in
    let test : nat_lt n (2 ^ 63) ≡ true = grind (arith, nat_tests) in
    signed_plain (decimal n) (decimal_nonempty n wide) (no_sign n wide)
    ∙ ap from_zero (number_all n wide) ∙ ap (λ b. cond b (Some (pos n)) None) test
signed_all (negsuc n) fits =
    let small : n < 2 ^ 63 = fits.sfits in
    let wide : suc n < 2 ^ 64 = omega arith in
    let some : nat_lt 0 (suc n) ≡ true = grind (arith, nat_tests) in
    let test : nat_le (suc n) (2 ^ 63) ≡ true = grind (arith, nat_tests) in
    let back : suc n - 1 ≡ n = omega arith in
    ap below_zero (number_all (suc n) wide) ∙ rw (some, test, back) refl

from_zero_only : (word : List ℕ) (o : Option ℕ) (z : ℤ) → number_of word ≡ o → from_zero o ≡ Some z
    → (signed_decimal z ≡ word) × FitsSigned w64 z
from_zero_only word None z is h = cc h
from_zero_only word (Some n) z is h = by_test (nat_lt n (2 ^ 63)) refl h
  where
    by_test : (b : Bool) → nat_lt n (2 ^ 63) ≡ b → cond b (Some (pos n)) None ≡ Some z
        → (signed_decimal z ≡ word) × FitsSigned w64 z
    by_test false test h = cc h
    by_test true test h = subst (λ (z : ℤ). (signed_decimal z ≡ word) × FitsSigned w64 z)
        (value_is (pos n) z h) (
          (number_only word n is).0,
          record { sfits = grind (arith, nat_tests) },
        )

below_zero_only : (word : List ℕ) (o : Option ℕ) (z : ℤ) → number_of word ≡ o
    → below_zero o ≡ Some z → (signed_decimal z ≡ 45 ∷ word) × FitsSigned w64 z
below_zero_only word None z is h = cc h
below_zero_only word (Some zero) z is h = cc h
below_zero_only word (Some (suc n)) z is h =
    by_test (nat_lt 0 (suc n) && nat_le (suc n) (2 ^ 63)) refl h
  where
    by_test : (b : Bool) → (nat_lt 0 (suc n) && nat_le (suc n) (2 ^ 63)) ≡ b
        → cond b (Some (negsuc (suc n - 1))) None ≡ Some z → (signed_decimal z ≡ 45 ∷ word)
        × FitsSigned w64 z
    by_test false test h = cc h
    by_test true test h =
        let back : suc n - 1 ≡ n = omega arith in
        let is_z : negsuc n ≡ z = ap negsuc (sym back) ∙ value_is (negsuc (suc n - 1)) z h in
        subst (λ (z : ℤ). (signed_decimal z ≡ 45 ∷ word) × FitsSigned w64 z) is_z (
          ap (λ (w : List ℕ). 45 ∷ w) (number_only word (suc n) is).0,
          record { sfits = grind (arith, nat_tests) },
        )

signed_only : (word : List ℕ) (z : ℤ) → signed_of word ≡ Some z → (signed_decimal z ≡ word)
    × FitsSigned w64 z
unfolding signed_of
signed_only [] z h = cc h
signed_only (b ∷ bs) z h = by_sign (b == 45) refl h
  where
    by_sign : (s : Bool) → (b == 45) ≡ s
        → cond s (below_zero (number_of bs)) (from_zero (number_of (b ∷ bs))) ≡ Some z
        → (signed_decimal z ≡ b ∷ bs) × FitsSigned w64 z
    by_sign false is h = from_zero_only (b ∷ bs) (number_of (b ∷ bs)) z refl h
    by_sign true is h =
        let same : 45 ≡ b = grind (arith, nat_tests) in
        let read = below_zero_only bs (number_of bs) z refl h in
        (read.0 ∙ ap (λ (c : ℕ). c ∷ bs) same, read.1)

pub signed_numbers : Spelled signed_of signed_decimal (λ z. FitsSigned w64 z)
signed_numbers = record { all = signed_all; only = signed_only }

pub widened : (z : ℤ) → FitsSigned w32 z → FitsSigned w64 z
widened (pos n) fits = record { sfits = omega (arith, fits.sfits) }
widened (negsuc n) fits = record { sfits = omega (arith, fits.sfits) }

narrowed_all : (z : ℤ) → FitsSigned w32 z → narrowed z ≡ Some z
narrowed_all (pos n) fits = let small : n < 2 ^ 31 = fits.sfits in
    let test : nat_lt n (2 ^ 31) ≡ true = grind (arith, nat_tests) in rw test refl
narrowed_all (negsuc n) fits = let small : n < 2 ^ 31 = fits.sfits in
    let test : nat_lt n (2 ^ 31) ≡ true = grind (arith, nat_tests) in rw test refl

narrowed_only : (z y : ℤ) → narrowed z ≡ Some y → (z ≡ y) × FitsSigned w32 y
narrowed_only (pos n) y h = by_test (nat_lt n (2 ^ 31)) refl h
  where
    by_test : (b : Bool) → nat_lt n (2 ^ 31) ≡ b → cond b (Some (pos n)) None ≡ Some y → (pos n ≡ y)
        × FitsSigned w32 y
    by_test false test h = cc h
    by_test true test h = let is = value_is (pos n) y h in
        (is, subst (λ (y : ℤ). FitsSigned w32 y) is (record { sfits = grind (arith, nat_tests) }))
narrowed_only (negsuc n) y h = by_test (nat_lt n (2 ^ 31)) refl h
  where
    by_test : (b : Bool) → nat_lt n (2 ^ 31) ≡ b → cond b (Some (negsuc n)) None ≡ Some y
        → (negsuc n ≡ y) × FitsSigned w32 y
    by_test false test h = cc h
    by_test true test h = let is = value_is (negsuc n) y h in
        (is, subst (λ (y : ℤ). FitsSigned w32 y) is (record { sfits = grind (arith, nat_tests) }))

narrow_all : (z : ℤ) → FitsSigned w32 z → narrow_of (signed_decimal z) ≡ Some z
unfolding narrow_of
narrow_all z fits = ap (λ o. o >>= narrowed) (signed_all z (widened z fits)) ∙ narrowed_all z fits

narrow_only : (word : List ℕ) (z : ℤ) → narrow_of word ≡ Some z → (signed_decimal z ≡ word)
    × FitsSigned w32 z
unfolding narrow_of
narrow_only word z h =
    let a = went (signed_of word) narrowed z h in
    let n = narrowed_only a.value z a.more in
    (ap signed_decimal (sym n.0) ∙ (signed_only word a.value a.is).0, n.1)

pub narrow_numbers : Spelled narrow_of signed_decimal (λ z. FitsSigned w32 z)
narrow_numbers = record { all = narrow_all; only = narrow_only }

-- ---- words of a few letters

letter_only : (letter byte : ℕ) (v : Bool) → letter_of letter byte ≡ Some v
    → cond v letter 45 ≡ byte
letter_only letter byte v h = by_letter (byte == letter) refl h
  where
    by_hyphen : (b : Bool) → (byte == 45) ≡ b → cond b (Some false) None ≡ Some v
        → cond v letter 45 ≡ byte
    by_hyphen false is h = cc h
    by_hyphen true is h = let never : false ≡ v = value_is false v h in
        rw (← never) (grind (arith, nat_tests))

    by_letter : (b : Bool) → (byte == letter) ≡ b
        → cond b (Some true) (cond (byte == 45) (Some false) None) ≡ Some v
        → cond v letter 45 ≡ byte
    by_letter false is h = by_hyphen (byte == 45) refl h
    by_letter true is h = let always : true ≡ v = value_is true v h in
        rw (← always) (grind (arith, nat_tests))

of_letters : (r w e : Bool) → mask_of (mask_text (record { read = r; write = w; except = e }))
    ≡ Some (record { read = r; write = w; except = e })
unfolding mask_of mask_text
of_letters true true true = refl
of_letters true true false = refl
of_letters true false true = refl
of_letters true false false = refl
of_letters false true true = refl
of_letters false true false = refl
of_letters false false true = refl
of_letters false false false = refl

letters_are : (r w e : Bool) → mask_text (record { read = r; write = w; except = e })
    ≡ cond r 114 45 ∷ cond w 119 45 ∷ cond e 101 45 ∷ []
unfolding mask_text
letters_are true true true = refl
letters_are true true false = refl
letters_are true false true = refl
letters_are true false false = refl
letters_are false true true = refl
letters_are false true false = refl
letters_are false false true = refl
letters_are false false false = refl

not_three : (word : List ℕ) (m : Mask) → (length word == 3) ≡ false → mask_of word ≡ Some m → ⊥
unfolding mask_of
not_three word m other h = cc (rw other at h)

mask_only : (word : List ℕ) (m : Mask) → mask_of word ≡ Some m → mask_text m ≡ word
unfolding mask_of
mask_only [] m h = cc h
mask_only (x ∷ []) m h = cc h
mask_only (x ∷ y ∷ []) m h = cc h
mask_only (x ∷ y ∷ z ∷ []) m h =
    let r = went (letter_of 114 x) _ m h in
    let w = went (letter_of 119 y) _ m r.more in
    let e = went (letter_of 101 z) _ m w.more in
    let is : record { read = r.value; write = w.value; except = e.value } ≡ m =
    value_is (record { read = r.value; write = w.value; except = e.value }) m e.more in
    ap mask_text (sym is) ∙ letters_are r.value w.value e.value
    ∙ ap (λ (b : ℕ). b ∷ cond w.value 119 45 ∷ cond e.value 101 45 ∷ [])
    (letter_only 114 x r.value r.is)
    ∙ ap (λ (b : ℕ). x ∷ b ∷ cond e.value 101 45 ∷ []) (letter_only 119 y w.value w.is)
    ∙ ap (λ (b : ℕ). x ∷ y ∷ b ∷ []) (letter_only 101 z e.value e.is)
mask_only (x ∷ y ∷ z ∷ u ∷ more) m h =
    absurd (not_three (x ∷ y ∷ z ∷ u ∷ more) m (grind (arith, nat_tests)) h)

pub masks : Spelled mask_of mask_text Always
masks = record {
  all = λ m _. of_letters m.read m.write m.except;
  only = λ word m h. (mask_only word m h, tt);
}

kind_all : (k : Kind) → kind_of (kind_text k) ≡ Some k
unfolding kind_of
kind_all Read = refl
kind_all Write = refl
kind_all Except = refl

kind_only : (word : List ℕ) (k : Kind) → kind_of word ≡ Some k → kind_text k ≡ word
unfolding kind_of
kind_only word k h =
    elim (chosen word (codes "read") _ _ k h) [
      | inl a ↦ ap kind_text (sym (value_is Read k a.1)) ∙ sym a.0
      | inr h ↦
          elim (chosen word (codes "write") _ _ k h) [
            | inl a ↦ ap kind_text (sym (value_is Write k a.1)) ∙ sym a.0
            | inr h ↦
                elim (chosen word (codes "except") _ _ k h) [
                  | inl a ↦ ap kind_text (sym (value_is Except k a.1)) ∙ sym a.0
                  | inr h ↦ cc h
                ]
          ]
    ]

pub kinds : Spelled kind_of kind_text Always
kinds = record { all = λ k _. kind_all k; only = λ word k h. (kind_only word k h, tt) }

answer_all : (a : Answer) → answer_of (answer_text a) ≡ Some a
unfolding answer_of
answer_all Keep = refl
answer_all Again = refl
answer_all Close = refl

answer_only : (word : List ℕ) (k : Answer) → answer_of word ≡ Some k → answer_text k ≡ word
unfolding answer_of
answer_only word k h =
    elim (chosen word (codes "keep") _ _ k h) [
      | inl a ↦ ap answer_text (sym (value_is Keep k a.1)) ∙ sym a.0
      | inr h ↦
          elim (chosen word (codes "again") _ _ k h) [
            | inl a ↦ ap answer_text (sym (value_is Again k a.1)) ∙ sym a.0
            | inr h ↦
                elim (chosen word (codes "close") _ _ k h) [
                  | inl a ↦ ap answer_text (sym (value_is Close k a.1)) ∙ sym a.0
                  | inr h ↦ cc h
                ]
          ]
    ]

pub answers : Spelled answer_of answer_text Always
answers = record { all = λ a _. answer_all a; only = λ word a h. (answer_only word a h, tt) }

fault_all : (b : Bool) → fault_of (fault_text b) ≡ Some b
unfolding fault_of
fault_all true = refl
fault_all false = refl

fault_only : (word : List ℕ) (b : Bool) → fault_of word ≡ Some b → fault_text b ≡ word
unfolding fault_of
fault_only word b h =
    elim (chosen word (codes "yes") _ _ b h) [
      | inl a ↦ ap fault_text (sym (value_is true b a.1)) ∙ sym a.0
      | inr h ↦
          elim (chosen word (codes "no") _ _ b h) [
            | inl a ↦ ap fault_text (sym (value_is false b a.1)) ∙ sym a.0
            | inr h ↦ cc h
          ]
    ]

pub faults : Spelled fault_of fault_text Always
faults = record { all = λ b _. fault_all b; only = λ word b h. (fault_only word b h, tt) }
