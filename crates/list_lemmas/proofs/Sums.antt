-- Sums over lists that change at one place.
use Rattle.std.proofs.Common.{◌≡◌, ℕ, zero, suc, ◌+◌, ◌≤◌, ◌≢◌, List, [], ◌∷◌, ◌++◌, set, sym, refl}
use Rattle.std.proofs.Common.{ap, arith}
use mathlib.Core.Option.{some, some-injective, some-ne-none}
use lib.ListN.{get_elem?}
use Rattle.list_lemmas.specs.Sums.{total}

module _ {A : Type 0} (g : A → ℕ) where
  pub total-append : (l m : List A) → total g (l ++ m) ≡ total g l + total g m
  total-append [] m = omega arith
  total-append (x ∷ xs) m = omega (arith, total-append xs m)

  pub total-set : (l : List A) (j : ℕ) (v w : A) → get_elem? l j ≡ some v
      → total g (set l j w) + g v ≡ total g l + g w
  total-set [] j v w e = absurd (some-ne-none v (sym e))
  total-set (x ∷ xs) zero v w e = omega (arith, ap g (some-injective x v e))
  total-set (x ∷ xs) (suc j) v w e = omega (arith, total-set xs j v w e)

  pub term_le : (l : List A) (j : ℕ) (v : A) → get_elem? l j ≡ some v → g v ≤ total g l
  term_le [] j v e = absurd (some-ne-none v (sym e))
  term_le (x ∷ xs) zero v e = omega (arith, ap g (some-injective x v e))
  term_le (x ∷ xs) (suc j) v e = omega (arith, term_le xs j v e)

  pub terms_le : (l : List A) (j k : ℕ) (v u : A) → k ≢ j → get_elem? l j ≡ some v
      → get_elem? l k ≡ some u → g v + g u ≤ total g l
  terms_le [] j k v u n e d = absurd (some-ne-none v (sym e))
  terms_le (x ∷ xs) zero zero v u n e d = absurd (n refl)
  terms_le (x ∷ xs) zero (suc k) v u n e d =
      omega (arith, ap g (some-injective x v e), term_le xs k u d)
  terms_le (x ∷ xs) (suc j) zero v u n e d =
      omega (arith, ap g (some-injective x u d), term_le xs j v e)
  terms_le (x ∷ xs) (suc j) (suc k) v u n e d =
      omega (arith, terms_le xs j k v u (λ h. n (ap suc h)) e d)

  -- a step that changes no summand
  pub total-same : (l : List A) (j : ℕ) (v w : A) → get_elem? l j ≡ some v → g w ≡ g v
      → total g (set l j w) ≡ total g l
  total-same l j v w e same = omega (arith, total-set l j v w e)

  -- if g is 0, f is
  abbrev Under : (A → ℕ) → List A → Type 0
  Under f l = (k : ℕ) (x : A) → get_elem? l k ≡ some x → g x ≡ 0 → f x ≡ 0

  pub none_there : (f : A → ℕ) (l : List A) → Under f l → total g l ≡ 0 → total f l ≡ 0
  none_there f [] u e = refl
  none_there f (x ∷ xs) u e = omega (
    arith,
    u 0 x refl (omega arith),
    none_there f xs (λ k. u (suc k)) (omega arith),
  )

  -- if one alone has g, the sum of f is its own
  pub alone : (f : A → ℕ) (l : List A) (j : ℕ) (v : A) → Under f l → total g l ≡ 1
      → get_elem? l j ≡ some v → g v ≡ 1 → total f l ≡ f v
  alone f [] j v u e at one = absurd (some-ne-none v (sym at))
  alone f (x ∷ xs) zero v u e at one = let same : x ≡ v = some-injective x v at in
      omega (
        arith,
        ap g same,
        ap f same,
        none_there f xs (λ k. u (suc k)) (omega (arith, ap g same)),
      )
  alone f (x ∷ xs) (suc j) v u e at one = let none_here : g x ≡ 0 =
      omega (arith, term_le xs j v at) in
      omega (arith, u 0 x refl none_here, alone f xs j v (λ k. u (suc k)) (omega arith) at one)
