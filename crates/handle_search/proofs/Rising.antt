-- What stands where in a list in rising order of a number.
use Rattle.std.proofs.Common.{ℕ, ◌≡◌, ◌≢◌, ◌<◌, ◌≤◌, true, List, length, get_or, subst, arith, inl}
use Rattle.std.proofs.Common.{inr}
use Rattle.std.proofs.lemmas.Bool.{ltb-true, lt-ltb, cases_lt, cases_eq}
use Rattle.std.specs.List.{All, AllWithin, HoldsAt}
use Rattle.std.specs.List.Sorted.{IsPartitionedBy}
use Rattle.std.specs.Prelude.{nat_lt}
use Rattle.handle_search.specs.Rising.{IsRising}

module _ {A : Type 0} (number : A → ℕ) where
  -- those below a number stand in front
  pub parted : (n : ℕ) (items : List A) → IsRising number items
      → IsPartitionedBy (λ a. nat_lt (number a) n) items
  parted n items rising i j d l m less =
      elim (cases_lt i j) [
        | inl before ↦
            let r : number (get_or items i d) < number (get_or items j d) = rising i j d before m in
            let b : number (get_or items j d) < n = ltb-true _ _ less in
            lt-ltb _ _ (omega arith)
        | inr other ↦
            let e : j ≡ i = omega arith in
            subst (λ k. nat_lt (number (get_or items k d)) n ≡ true) e less
      ]

  -- a number that is not at its place is nowhere
  pub is_absent : (n place : ℕ) (items : List A) → IsRising number items
      → AllWithin (λ a. number a < n) items 0 place
      → AllWithin (λ a. n ≤ number a) items place (length items)
      → (place < length items → HoldsAt (λ a. number a ≢ n) items place)
      → All (λ a. number a ≢ n) items
  is_absent n place items rising below above other k d l e =
      elim (cases_lt k place) [
        | inl before ↦ let b : number (get_or items k d) < n = below k d (omega arith) before in
            omega arith
        | inr after ↦ elim (cases_eq k place) [
          | inl same ↦ other (omega arith) d (subst (λ i. number (get_or items i d) ≡ n) same e)
          | inr differs ↦
              let r : number (get_or items place d) < number (get_or items k d) =
              rising place k d (omega arith) l in
              let b : n ≤ number (get_or items place d) =
              above place d (omega arith) (omega arith) in
              omega arith
        ]
      ]
