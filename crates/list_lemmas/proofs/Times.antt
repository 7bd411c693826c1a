-- How often a number stands in a list from which another was taken.
use Rattle.std.proofs.Common.{◌≡◌, ℕ, ◌+◌, ◌==◌, Bool, true, false, not, cond, List, [], ◌∷◌}
use Rattle.std.proofs.Common.{filter}
use Rattle.std.proofs.Common.{refl, sym, ap, ◌∙◌, arith, ⊎_elim}
use Rattle.std.proofs.lemmas.Bool.{false≢true, eqb-true, cases_Bool}
use Rattle.list_lemmas.specs.Times.{times}

pub times_filter : (i event : ℕ) (xs : List ℕ)
    → times i (filter (λ j. not (j == event)) xs) ≡ cond (i == event) 0 (times i xs)
times_filter i event [] = by_cases (i == event)
  where
    by_cases : (b : Bool) → ◌≡◌ {A = ℕ} 0 (cond b 0 0)
    by_cases true = refl
    by_cases false = refl
times_filter i event (x ∷ xs) = by_cases (x == event) (i == event) refl refl
    (times_filter i event xs)
  where
    apart : (a b : Bool) → (x == event) ≡ a → (i == event) ≡ b → a ≡ not b
        → cond {A = ℕ} (i == x) 1 0 ≡ 0
    apart a b p q n =
        ⊎_elim
        (λ (r : (i == x) ≡ true). absurd (differ b
        (sym (sym q ∙ ap (λ (k : ℕ). k == event) (eqb-true i x r) ∙ p ∙ n))))
        (λ (r : (i == x) ≡ false). ap (λ (c : Bool). cond {A = ℕ} c 1 0) r)
        (cases_Bool (i == x))
      where
        differ : (c : Bool) → not c ≡ c → ⊥
        differ true h = false≢true h
        differ false h = false≢true (sym h)

    by_cases : (a b : Bool) → (x == event) ≡ a → (i == event) ≡ b
        → times i (filter (λ j. not (j == event)) xs) ≡ cond b 0 (times i xs)
        → times i (cond (not a) (x ∷ filter (λ j. not (j == event)) xs)
        (filter (λ j. not (j == event)) xs)) ≡ cond b 0 (cond (i == x) 1 0 + times i xs)
    by_cases true true p q rec = rec
    by_cases false false p q rec = omega (arith, rec)
    by_cases true false p q rec = omega (arith, rec, apart true false p q refl)
    by_cases false true p q rec = omega (arith, rec, apart false true p q refl)
