-- Edits of a list at one place.
use Rattle.std.proofs.Common.{ℕ, zero, suc, ◌≡◌, ◌≢◌, ◌+◌, ◌-◌, ◌<◌, ◌≤◌, Bool, true, false, List}
use Rattle.std.proofs.Common.{[], ◌∷◌, ◌++◌, length, get_or, take, drop, map, refl, sym, ap, ◌∙◌}
use Rattle.std.proofs.Common.{subst, arith, ◌⊎◌, inl, inr}
use Rattle.std.proofs.lemmas.Bool.{and_parts, cond-true, cond-false, cases_order}
use Rattle.std.proofs.lemmas.List.{map-append, take-map, drop-map}
use Rattle.std.proofs.lemmas.List.Edits.{length-insert, get_or-insert_below, get_or-insert_at}
use Rattle.std.proofs.lemmas.List.Edits.{get_or-insert_above}
use Rattle.std.proofs.lemmas.List.Sums.{list_all-from_AllPass}
use Rattle.std.specs.List.{insert, remove, filter, list_all, AllPairs, All}

module _ {X : Type 0} where
  -- a filter that all pass takes nothing
  filter_all : (q : X → Bool) (xs : List X) → list_all q xs ≡ true → filter q xs ≡ xs
  filter_all q [] h = refl
  filter_all q (x ∷ xs) h =
      let k : (q x ≡ true) × (list_all q xs ≡ true) = and_parts (q x) (list_all q xs) h in
      cond-true (q x) (x ∷ filter q xs) (filter q xs) k.0 ∙ ap (λ ys. x ∷ ys) (filter_all q xs k.1)

  -- a filter that one place alone does not pass takes that place out
  pub filter_place : (q : X → Bool) (xs : List X) (p : ℕ) → ((d : X) → q (get_or xs p d) ≡ false)
      → ((k : ℕ) (d : X) → k < length xs → k ≢ p → q (get_or xs k d) ≡ true) → p < length xs
      → filter q xs ≡ remove xs p
  filter_place q [] p out others l = absurd (omega arith)
  filter_place q (x ∷ xs) zero out others l =
      cond-false (q x) (x ∷ filter q xs) (filter q xs) (out x)
      ∙ filter_all q xs (list_all-from_AllPass q xs
      (λ k d h. others (suc k) d (omega arith) (omega arith)))
  filter_place q (x ∷ xs) (suc p) out others l =
      cond-true (q x) (x ∷ filter q xs) (filter q xs) (others zero x (omega arith) (omega arith))
      ∙ ap (λ ys. x ∷ ys) (filter_place q xs p out
      (λ k d h ne. others (suc k) d (omega arith) (omega arith)) (omega arith))

  -- what stands at a place after an insert
  abbrev Inserted : List X → ℕ → X → X → ℕ → Type 0
  Inserted xs p y d k =
      ((k < p) × (get_or (insert xs p y) k d ≡ get_or xs k d))
      ⊎ (((k ≡ p) × (get_or (insert xs p y) k d ≡ y))
      ⊎ ((p < k) × (get_or (insert xs p y) k d ≡ get_or xs (k - 1) d)))

  inserted : (xs : List X) (p : ℕ) (y d : X) (k : ℕ) → p ≤ length xs → Inserted xs p y d k
  inserted xs p y d k l =
      elim (cases_order k p) [
        | inl same ↦ inr (inl (
          same,
          ap (λ n. get_or (insert xs p y) n d) same
              ∙ get_or-insert_at xs p y d l,
        ))
        | inr other ↦ elim other [
          | inl below ↦ inl (below, get_or-insert_below xs p y d k below l)
          | inr above ↦
              let e : k ≡ k - 1 + 1 = omega arith in
              inr (inr (
                above,
                ap (λ n. get_or (insert xs p y) n d) e
                    ∙ get_or-insert_above xs p y d (k - 1) (omega arith) l,
              ))
        ]
      ]

  -- a relation of each element to those after it, after an insert
  pub all_pairs_insert : (R : X → X → Type 0) (xs : List X) (p : ℕ) (y : X) → p ≤ length xs
      → AllPairs R xs
      → ((k : ℕ) (d : X) → k < p → R (get_or xs k d) y)
      → ((k : ℕ) (d : X) → p ≤ k → k < length xs → R y (get_or xs k d))
      → AllPairs R (insert xs p y)
  all_pairs_insert R xs p y l pairs below above i j d less within =
      let n : length (insert xs p y) ≡ length xs + 1 = length-insert xs p y l in
      elim (inserted xs p y d i l) [
        | inl a ↦ elim (inserted xs p y d j l) [
          | inl b ↦ subst (λ v. R v (get_or (insert xs p y) j d)) (sym a.1)
              (subst (λ v. R (get_or xs i d) v) (sym b.1) (pairs i j d less (omega arith)))
          | inr o ↦ elim o [
            | inl b ↦ subst (λ v. R v (get_or (insert xs p y) j d)) (sym a.1)
                (subst (λ v. R (get_or xs i d) v) (sym b.1) (below i d a.0))
            | inr b ↦ subst (λ v. R v (get_or (insert xs p y) j d)) (sym a.1)
                (subst (λ v. R (get_or xs i d) v) (sym b.1)
                (pairs i (j - 1) d (omega arith) (omega arith)))
          ]
        ]
        | inr u ↦ elim u [
          | inl a ↦ elim (inserted xs p y d j l) [
            | inl b ↦ absurd (omega arith)
            | inr o ↦ elim o [
              | inl b ↦ absurd (omega arith)
              | inr b ↦ subst (λ v. R v (get_or (insert xs p y) j d)) (sym a.1)
                  (subst (λ v. R y v) (sym b.1) (above (j - 1) d (omega arith) (omega arith)))
            ]
          ]
          | inr a ↦ elim (inserted xs p y d j l) [
            | inl b ↦ absurd (omega arith)
            | inr o ↦ elim o [
              | inl b ↦ absurd (omega arith)
              | inr b ↦ subst (λ v. R v (get_or (insert xs p y) j d)) (sym a.1)
                  (subst (λ v. R (get_or xs (i - 1) d) v) (sym b.1)
                  (pairs (i - 1) (j - 1) d (omega arith) (omega arith)))
            ]
          ]
        ]
      ]

module _ {X Y : Type 0} where
  pub map-insert : (f : X → Y) (xs : List X) (p : ℕ) (y : X)
      → map f (insert xs p y) ≡ insert (map f xs) p (f y)
  map-insert f xs p y =
      map-append f (take p xs) (y ∷ drop p xs)
      ∙ ap (λ ys. ys ++ f y ∷ map f (drop p xs)) (sym (take-map f p xs))
      ∙ ap (λ ys. take p (map f xs) ++ f y ∷ ys) (sym (drop-map f p xs))

  pub map-remove : (f : X → Y) (xs : List X) (p : ℕ) → map f (remove xs p) ≡ remove (map f xs) p
  map-remove f xs p =
      map-append f (take p xs) (drop (suc p) xs)
      ∙ ap (λ ys. ys ++ map f (drop (suc p) xs)) (sym (take-map f p xs))
      ∙ ap (λ ys. take p (map f xs) ++ ys) (sym (drop-map f (suc p) xs))

  -- two functions that agree at each element
  pub map_agree : (f g : X → Y) (xs : List X) → All (λ x. f x ≡ g x) xs → map f xs ≡ map g xs
  map_agree f g [] h = refl
  map_agree f g (x ∷ xs) h =
      ap (λ y. y ∷ map f xs) (h zero x (omega arith))
      ∙ ap (λ ys. g x ∷ ys) (map_agree f g xs (λ k d l. h (suc k) d (omega arith)))
