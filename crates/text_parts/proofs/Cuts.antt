-- The parts of a text at its first separator.
use Rattle.std.proofs.Common.{◌≡◌, ℕ, suc, ◌+◌, ◌<◌, ◌≤◌, Bool, true, false, not, cond, ltb, ◌==◌}
use Rattle.std.proofs.Common.{List, [], ◌∷◌, length, take, drop, Option, Some, None, refl, ◌∙◌}
use Rattle.std.proofs.Common.{◌++◌, ap, arith}
use Rattle.std.specs.List.{position_or_len, onto_first, list_all}
use Rattle.std.proofs.lemmas.Bool.{and_parts}
use Rattle.std.proofs.lemmas.Bool.Decides.{nat_tests}
use Rattle.std.proofs.lemmas.List.Splits.{slice_split_first, slice_split-cons_yes}
use Rattle.std.proofs.lemmas.List.Splits.{slice_split-cons_no}
use Rattle.text_parts.specs.Parts.{parts}

none_step : (b : Bool) (c x : ℕ) (xs : List ℕ)
    → (length xs ≤ position_or_len (λ b. b == c) xs → parts c xs ≡ xs ∷ [])
    → suc (length xs) ≤ cond (not b) (1 + position_or_len (λ b. b == c) xs) 0
    → cond b ([] ∷ parts c xs) (onto_first x (parts c xs)) ≡ (x ∷ xs) ∷ []
none_step true c x xs rest h = absurd (omega (arith, h))
none_step false c x xs rest h = ap (onto_first x) (rest (omega (arith, h)))

parts_none : (c : ℕ) (xs : List ℕ) → length xs ≤ position_or_len (λ b. b == c) xs
    → parts c xs ≡ xs ∷ []
parts_none c [] h = refl
parts_none c (x ∷ xs) h = none_step (x == c) c x xs (parts_none c xs) h

-- the part in front, by the answer of `position`
abbrev pub AreCut : ℕ → List ℕ → Option ℕ → Type 0
AreCut c xs None = parts c xs ≡ xs ∷ []
AreCut c xs (Some at) = (at < length xs) × (parts c xs ≡ take at xs ∷ parts c (drop (at + 1) xs))

by_test : (b : Bool) (c : ℕ) (xs : List ℕ) → ltb (position_or_len (λ b. b == c) xs) (length xs) ≡ b
    → AreCut c xs (cond b (Some (position_or_len (λ b. b == c) xs)) None)
by_test true c xs e = let lt : position_or_len (λ b. b == c) xs < length xs =
    grind (arith, nat_tests) in (lt, slice_split_first (λ b. b == c) xs 0 lt)
by_test false c xs e = parts_none c xs (grind (arith, nat_tests))

pub are_cut : (c : ℕ) (xs : List ℕ)
    → AreCut c xs (cond (ltb (position_or_len (λ b. b == c) xs) (length xs))
    (Some (position_or_len (λ b. b == c) xs)) None)
are_cut c xs = by_test _ c xs refl

-- there is always a part
joined : (x : ℕ) (ps : List (List ℕ)) → (first : List ℕ) × (more : List (List ℕ))
    × (onto_first x ps ≡ first ∷ more)
joined x [] = (x ∷ [], [], refl)
joined x (p ∷ ps) = (x ∷ p, ps, refl)

one_step : (b : Bool) (c x : ℕ) (xs : List ℕ) → (first : List ℕ) × (more : List (List ℕ))
    × (cond b ([] ∷ parts c xs) (onto_first x (parts c xs)) ≡ first ∷ more)
one_step true c x xs = ([], parts c xs, refl)
one_step false c x xs = joined x (parts c xs)

pub one_part : (c : ℕ) (xs : List ℕ) → (first : List ℕ) × (more : List (List ℕ))
    × (parts c xs ≡ first ∷ more)
one_part c [] = ([], [], refl)
one_part c (x ∷ xs) = one_step (x == c) c x xs

-- ---- a part without a separator

-- no byte of a part is the separator
abbrev pub Free : ℕ → List ℕ → Type 0
Free c part = list_all (λ b. not (b == c)) part ≡ true

other : (b : Bool) → not b ≡ true → b ≡ false
other true is = cc
other false is = refl

same : (c : ℕ) → (c == c) ≡ true
same c = grind (arith, nat_tests)

pub first_one : (c : ℕ) (part rest : List ℕ) → Free c part
    → parts c (part ++ c ∷ rest) ≡ part ∷ parts c rest
first_one c [] rest free = slice_split-cons_yes (λ b. b == c) c rest (same c)
first_one c (b ∷ part) rest free =
    let both = and_parts (not (b == c)) (list_all (λ b. not (b == c)) part) free in
    slice_split-cons_no (λ b. b == c) b (part ++ c ∷ rest) (other (b == c) both.0)
    ∙ ap (onto_first b) (first_one c part rest both.1)

pub last_one : (c : ℕ) (part : List ℕ) → Free c part → parts c part ≡ part ∷ []
last_one c [] free = refl
last_one c (b ∷ part) free =
    let both = and_parts (not (b == c)) (list_all (λ b. not (b == c)) part) free in
    slice_split-cons_no (λ b. b == c) b part (other (b == c) both.0)
    ∙ ap (onto_first b) (last_one c part both.1)
