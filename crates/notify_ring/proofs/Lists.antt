-- The postings of one poster among all.
use Rattle.std.proofs.Common.{◌≡◌, ◌≢◌, ◌⊎◌, inl, inr, ⊎_elim, ℕ, zero, suc, ◌+◌, ◌*◌, ◌<◌, ◌≤◌}
use Rattle.std.proofs.Common.{List, [], ◌∷◌, ◌++◌, length, sym, refl, ap, ◌∙◌, arith, Bool, true}
use Rattle.std.proofs.Common.{false, eqb, eq-eqb, ne_eqb, suc-mul}
use mathlib.Core.Logic.{dite}
use mathlib.Core.Option.{some, some-injective, some-ne-none}
use native.Mathlib.Decide.{ℕ_discrete}
use lib.ListN.{get_elem?}
use Rattle.notify_ring.specs.declared.posting.Posting.{Posting}
use Rattle.notify_ring.specs.Postings.{below, flag, with_if, from_is, by_poster}

kept-append : (n : ℕ) (x : Posting) (xs ys : List Posting)
    → with_if n x (xs ++ ys) ≡ with_if n x xs ++ ys
kept-append zero x xs ys = refl
kept-append (suc n) x xs ys = refl

pub of-append : (p : ℕ) (xs ys : List Posting)
    → by_poster p (xs ++ ys) ≡ by_poster p xs ++ by_poster p ys
of-append p [] ys = refl
of-append p (x ∷ xs) ys = ap (with_if (from_is p x) x) (of-append p xs ys)
    ∙ kept-append (from_is p x) x (by_poster p xs) (by_poster p ys)

pub of-one : (p : ℕ) (x : Posting) → p ≡ x.from → by_poster p (x ∷ []) ≡ x ∷ []
of-one p x e = ap (λ (b : Bool). with_if (flag b) x []) (eq-eqb p x.from e)

pub of-other : (p : ℕ) (x : Posting) → p ≢ x.from → by_poster p (x ∷ []) ≡ []
of-other p x ne = ap (λ (b : Bool). with_if (flag b) x []) (ne_eqb p x.from ne)

kept-length : (b : Bool) (x : Posting) (xs : List Posting)
    → length (with_if (flag b) x xs) ≡ flag b + length xs
kept-length true x xs = omega arith
kept-length false x xs = omega arith

below-add : (f g : ℕ → ℕ) (m : ℕ) → below (λ p. f p + g p) m ≡ below f m + below g m
below-add f g zero = refl
below-add f g (suc m) = omega (arith, below-add f g m)

below-hit : (q m : ℕ) → q < m → 1 ≤ below (λ p. flag (eqb p q)) m
below-hit q zero h = absurd (omega arith)
below-hit q (suc m) h = dite (ℕ_discrete m q)
    (λ e. omega (arith, ap flag (eq-eqb m q e)))
    (λ ne. omega (arith, below-hit q m (omega arith)))

below-same : (f g : ℕ → ℕ) (m : ℕ) → ((p : ℕ) → f p ≡ g p) → below f m ≡ below g m
below-same f g zero h = refl
below-same f g (suc m) h = omega (arith, below-same f g m h, h m)

pub below-le : (f : ℕ → ℕ) (k m : ℕ) → ((p : ℕ) → f p ≤ k) → below f m ≤ m * k
below-le f k zero h = omega arith
below-le f k (suc m) h = omega (arith, below-le f k m h, h m, suc-mul m k)

-- all postings are those of the posters
pub spread : (m : ℕ) (all : List Posting)
    → ((n : ℕ) (x : Posting) → get_elem? all n ≡ some x → x.from < m)
    → length all ≤ below (λ p. length (by_poster p all)) m
spread m [] h = omega arith
spread m (x ∷ xs) h =
    let same : below (λ p. length (by_poster p (x ∷ xs))) m
    ≡ below (λ p. flag (eqb p x.from) + length (by_poster p xs)) m =
    below-same (λ p. length (by_poster p (x ∷ xs)))
    (λ p. flag (eqb p x.from) + length (by_poster p xs)) m
    (λ p. kept-length (eqb p x.from) x (by_poster p xs)) in
    omega (
      arith,
      same,
      below-add (λ p. flag (eqb p x.from)) (λ p. length (by_poster p xs)) m,
      below-hit x.from m (h 0 x refl),
      spread m xs (λ n. h (suc n)),
    )

-- a poster who is not among them has none
pub of-none : (p : ℕ) (all : List Posting)
    → ((n : ℕ) (x : Posting) → get_elem? all n ≡ some x → p ≢ x.from) → by_poster p all ≡ []
of-none p [] h = refl
of-none p (x ∷ xs) h = ap (λ (b : Bool). with_if (flag b) x (by_poster p xs))
    (ne_eqb p x.from (h 0 x refl)) ∙ of-none p xs (λ n. h (suc n))

pub at_end : {A : Type 0} (l : List A) (a b : A) (j : ℕ) → get_elem? (l ++ a ∷ []) j ≡ some b
    → (get_elem? l j ≡ some b) ⊎ ((j ≡ length l) × (a ≡ b))
at_end [] a b zero e = inr (refl, some-injective a b e)
at_end [] a b (suc j) e = absurd (some-ne-none b (sym e))
at_end (x ∷ xs) a b zero e = inl e
at_end (x ∷ xs) a b (suc j) e = ⊎_elim (λ t. inl t) (λ t. inr (ap suc t.0, t.1)) (at_end xs a b j e)
