-- Beginnings of lists, and lists of marks.
use Rattle.std.proofs.Common.{◌≡◌, ℕ, zero, suc, ◌<◌, ◌≤◌, ◌⊎◌, ⊎_elim, List, [], ◌∷◌, ◌++◌, length}
use Rattle.std.proofs.Common.{sym, refl, ap, ◌∙◌, subst, arith, cond, max, append_assoc, append-nil}
use Rattle.std.proofs.Common.{length-append, lt-ltb, le-ltb}
use Rattle.std.specs.Prelude.{slice_index}
use mathlib.Core.Logic.{dite}
use native.Mathlib.Decide.{dec_le}
use Rattle.leader_token.specs.Lists.{Begins, NoneAbove, greater, longer, shorter}

module _ {E : Type 0} where
  pub begins-self : (xs : List E) → Begins xs xs
  begins-self xs = ([], append-nil xs)

  pub begins-trans : (xs ys zs : List E) → Begins xs ys → Begins ys zs → Begins xs zs
  begins-trans xs ys zs a b = (
    a.0 ++ b.0,
    sym (append_assoc xs a.0 b.0) ∙ ap (λ l. l ++ b.0) a.1
        ∙ b.1,
  )

  pub begins-length : (xs ys : List E) → Begins xs ys → length xs ≤ length ys
  begins-length xs ys b = omega (arith, length-append xs b.0, ap length b.1)

  empty : (xs rest : List E) → length (xs ++ rest) ≤ length xs → rest ≡ []
  empty xs [] h = refl
  empty xs (y ∷ ys) h = absurd (omega (arith, length-append xs (y ∷ ys)))

  pub begins-whole : (xs ys : List E) → Begins xs ys → length ys ≤ length xs → xs ≡ ys
  begins-whole xs ys b h = let none : b.0 ≡ [] = empty xs b.0 (omega (arith, ap length b.1)) in
      sym (append-nil xs) ∙ ap (λ r. xs ++ r) (sym none) ∙ b.1

  -- of two beginnings of one list the shorter begins the longer
  pub begins-shorter : (xs ys h : List E) → Begins xs h → Begins ys h → length xs ≤ length ys
      → Begins xs ys
  begins-shorter [] ys h a b le = (ys, refl)
  begins-shorter (x ∷ xs) [] h a b le = absurd (omega arith)
  begins-shorter (x ∷ xs) (y ∷ ys) [] a b le = absurd (omega (arith, ap length a.1))
  begins-shorter (x ∷ xs) (y ∷ ys) (z ∷ zs) a b le =
      let p : x ≡ z = head-of x z _ zs a.1 in
      let q : y ≡ z = head-of y z _ zs b.1 in
      let r = begins-shorter xs ys zs (a.0, tail-of x z _ zs a.1) (b.0, tail-of y z _ zs b.1)
      (omega arith) in
      (r.0, λ i. (p ∙ sym q) i ∷ r.1 i)
    where
      head-of : (x z : E) (xs zs : List E) → x ∷ xs ≡ z ∷ zs → x ≡ z
      head-of x z xs zs e = cc

      tail-of : (x z : E) (xs zs : List E) → x ∷ xs ≡ z ∷ zs → xs ≡ zs
      tail-of x z xs zs e = cc

  pub longer-of : (xs ys h : List E) (P : List E → Type 0) → (length ys ≤ length xs → P xs)
      → (length xs < length ys → P ys) → P (longer xs ys)
  longer-of xs ys h P a b = dite (dec_le (length ys) (length xs))
      (λ le. subst (λ t. P (cond t ys xs)) (sym (le-ltb (length xs) (length ys) le)) (a le))
      (λ no. let lt : length xs < length ys = omega arith in
      subst (λ t. P (cond t ys xs)) (sym (lt-ltb (length xs) (length ys) lt)) (b lt))

  pub longer-begins : (xs ys h : List E) → Begins xs h → Begins ys h → Begins (longer xs ys) h
  longer-begins xs ys h a b = longer-of xs ys h (λ l. Begins l h) (λ _. a) (λ _. b)

  -- of two beginnings of which one is whole, the longer is
  pub longer-whole : (xs ys h : List E) → Begins xs h → Begins ys h → (xs ≡ h) ⊎ (ys ≡ h)
      → longer xs ys ≡ h
  longer-whole xs ys h a b which = longer-of xs ys h (λ l. l ≡ h)
      (λ le. begins-whole xs h a (⊎_elim (λ e. omega (arith, ap length e))
      (λ e. omega (arith, ap length e)) which))
      (λ lt. begins-whole ys h b (⊎_elim (λ e. omega (arith, ap length e))
      (λ e. omega (arith, ap length e)) which))

  pub both-of : (xs ys : List E) (P : List E → List E → Type 0) → (length ys ≤ length xs → P ys xs)
      → (length xs < length ys → P xs ys) → P (shorter xs ys) (longer xs ys)
  both-of xs ys P a b = dite (dec_le (length ys) (length xs))
      (λ le. subst (λ t. P (cond t xs ys) (cond t ys xs)) (sym (le-ltb (length xs) (length ys) le))
      (a le))
      (λ no. let lt : length xs < length ys = omega arith in
      subst (λ t. P (cond t xs ys) (cond t ys xs)) (sym (lt-ltb (length xs) (length ys) lt))
      (b lt))

  pub shorter-begins : (xs ys h : List E) → Begins xs h → Begins ys h → Begins (shorter xs ys) h
  shorter-begins xs ys h a b = both-of xs ys (λ s _. Begins s h) (λ _. b) (λ _. a)

  pub shorter-length : (xs ys : List E) → length (shorter xs ys) ≤ length (longer xs ys)
  shorter-length xs ys = both-of xs ys (λ s l. length s ≤ length l) (λ le. le) (λ lt. omega arith)

  -- if the shorter begins the longer, both begin it
  pub both-begin : (xs ys : List E) → Begins (shorter xs ys) (longer xs ys)
      → Begins xs (longer xs ys) × Begins ys (longer xs ys)
  both-begin xs ys = both-of xs ys (λ s l. Begins s l → Begins xs l × Begins ys l)
      (λ _ b. (begins-self xs, b)) (λ _ b. (b, begins-self ys))

pub none_above-self : (xs : List ℕ) → NoneAbove xs xs
none_above-self xs k = omega arith

pub none_above-trans : (xs ys zs : List ℕ) → NoneAbove xs ys → NoneAbove ys zs → NoneAbove xs zs
none_above-trans xs ys zs a b k = omega (arith, a k, b k)

pub greater-at : (xs ys : List ℕ) (k : ℕ)
    → slice_index (greater xs ys) k ≡ max (slice_index xs k) (slice_index ys k)
greater-at [] ys k = omega arith
greater-at (x ∷ xs) [] k = omega arith
greater-at (x ∷ xs) (y ∷ ys) zero = refl
greater-at (x ∷ xs) (y ∷ ys) (suc k) = greater-at xs ys k

pub greater-above : (xs ys zs : List ℕ) → NoneAbove xs zs → NoneAbove ys zs
    → NoneAbove (greater xs ys) zs
greater-above xs ys zs a b k = omega (arith, a k, b k, greater-at xs ys k)

pub greater-length : (xs ys : List ℕ) → length xs ≡ length ys → length (greater xs ys) ≡ length xs
greater-length [] ys e = sym e
greater-length (x ∷ xs) [] e = refl
greater-length (x ∷ xs) (y ∷ ys) e = omega (arith, greater-length xs ys (omega (arith, e)))
