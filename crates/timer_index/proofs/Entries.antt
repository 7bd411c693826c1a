-- Entries that rise by number.
use Rattle.std.proofs.Common.{ℕ, ◌≡◌, ◌≢◌, ◌<◌, ◌≤◌, ◌-◌, Bool, true, false, eqb, List, length}
use Rattle.std.proofs.Common.{get_or, sym, ap, ◌∙◌, subst, arith, ◌⊎◌, inl, inr, Contains}
use Rattle.std.proofs.lemmas.Bool.{cases_eq, cases_lt, lt-ltb, ltb-true, eq-eqb, ne_eqb, eqb-false}
use Rattle.std.proofs.lemmas.Map.Keys.{apart_from_distinct, IsDistinct-from_apart}
use Rattle.std.proofs.lemmas.Map.Keys.{IsDistinct-IsPermutation}
use Rattle.std.proofs.lemmas.List.{get_or_default}
use Rattle.std.specs.List.{All, AllPairs, AllWithin, HoldsAt, IsDistinct}
use Rattle.std.specs.List.Sorted.{IsPartitionedBy, IsPermutation, IsNonDecreasingBy}
use Rattle.std.specs.Prelude.{nat_lt}
use Rattle.timer_index.specs.declared.index.Numbered.{Numbered}
use Rattle.timer_index.specs.Index.{IsRising}

-- in a rising index the numbers below one stand in front
pub rising_parted : (index : List Numbered) (timer : ℕ) → IsRising index
    → IsPartitionedBy (λ e. nat_lt e.timer timer) index
rising_parted index timer rising i j d l m less =
    elim (cases_lt i j) [
      | inl before ↦
          let r : (get_or index i d).timer < (get_or index j d).timer = rising i j d before m in
          let b : (get_or index j d).timer < timer = ltb-true _ _ less in
          lt-ltb _ _ (omega arith)
      | inr other ↦
          let e : j ≡ i = omega arith in
          subst (λ k. nat_lt (get_or index k d).timer timer ≡ true) e less
    ]

-- a number that is not at its place is nowhere
pub not_numbered : (index : List Numbered) (timer place : ℕ) → IsRising index
    → AllWithin (λ e. e.timer < timer) index 0 place
    → AllWithin (λ e. timer ≤ e.timer) index place (length index)
    → (place < length index → HoldsAt (λ e. e.timer ≢ timer) index place)
    → All (λ e. e.timer ≢ timer) index
not_numbered index timer place rising below above other k d l e =
    elim (cases_lt k place) [
      | inl before ↦ let b : (get_or index k d).timer < timer = below k d (omega arith) before in
          omega arith
      | inr after ↦ elim (cases_eq k place) [
        | inl same ↦ other (omega arith) d (subst (λ i. (get_or index i d).timer ≡ timer) same e)
        | inr differs ↦
            let r : (get_or index place d).timer < (get_or index k d).timer =
            rising place k d (omega arith) l in
            let b : timer ≤ (get_or index place d).timer =
            above place d (omega arith) (omega arith) in
            omega arith
      ]
    ]

-- two entries of one number are one
pub one_entry : (index : List Numbered) (place : ℕ) (e f : Numbered) → IsRising index
    → place < length index → e ≡ get_or index place e → Contains index f → e.timer ≡ f.timer → f ≡ e
one_entry index place e f rising l at has same =
    elim (cases_eq has.0 place) [
      | inl p ↦ sym has.2 ∙ ap (λ i. get_or index i f) p ∙ get_or_default index place f e l ∙ sym at
      | inr p ↦ elim (order has.0 place p) [
        | inl less ↦
            let r : (get_or index has.0 f).timer < (get_or index place f).timer =
            rising has.0 place f less l in
            let x : (get_or index has.0 f).timer ≡ f.timer = ap (λ g. g.timer) has.2 in
            let y : (get_or index place f).timer ≡ e.timer =
            ap (λ g. g.timer) (get_or_default index place f e l ∙ sym at) in
            absurd (omega arith)
        | inr more ↦
            let r : (get_or index place f).timer < (get_or index has.0 f).timer =
            rising place has.0 f more has.1 in
            let x : (get_or index has.0 f).timer ≡ f.timer = ap (λ g. g.timer) has.2 in
            let y : (get_or index place f).timer ≡ e.timer =
            ap (λ g. g.timer) (get_or_default index place f e l ∙ sym at) in
            absurd (omega arith)
      ]
    ]
  where
    order : (m n : ℕ) → m ≢ n → (m < n) ⊎ (n < m)
    order m n ne = grind arith

-- the last has the greatest number
pub all_below : (index : List Numbered) (timer : ℕ) → IsRising index → (0 < length index)
    × ((d : Numbered) → (get_or index (length index - 1) d).timer < timer)
    → AllWithin (λ e. e.timer < timer) index 0 (length index)
all_below index timer rising last k d low l =
    let b : (get_or index (length index - 1) d).timer < timer = last.1 d in
    elim (cases_eq k (length index - 1)) [
      | inl same ↦ subst (λ i. (get_or index i d).timer < timer) (sym same) b
      | inr differs ↦
          let r : (get_or index k d).timer < (get_or index (length index - 1) d).timer =
          rising k (length index - 1) d (omega (arith, differs, l)) (omega arith) in
          omega arith
    ]

-- entries of different numbers, sorted by them
pub rises_sorted : (old new : List Numbered) → AllPairs (λ e f. e.timer ≢ f.timer) old
    → IsPermutation old new → IsNonDecreasingBy (λ e. e.timer) new → IsRising new
rises_sorted old new apart moved sorted i j d less within =
    let distinct : IsDistinct same new =
    IsDistinct-IsPermutation same flips old new moved
    (IsDistinct-from_apart same old (λ a b x l m. ne_eqb _ _ (apart a b x l m))) in
    let differs : same (get_or new i d) (get_or new j d) ≡ false =
    apart_from_distinct same new i j d distinct less within in
    let order : (get_or new i d).timer ≤ (get_or new j d).timer =
    sorted i j d (omega (arith, less)) within in
    below (get_or new i d).timer (get_or new j d).timer order (eqb-false _ _ differs)
  where
    same : Numbered → Numbered → Bool
    same e f = eqb e.timer f.timer

    flips : (e f : Numbered) → same e f ≡ same f e
    flips e f = elim (cases_eq e.timer f.timer) [
      | inl is ↦ eq-eqb _ _ is ∙ sym (eq-eqb _ _ (sym is))
      | inr not_so ↦ ne_eqb _ _ not_so ∙ sym (ne_eqb _ _ (λ is. not_so (sym is)))
    ]

    below : (a b : ℕ) → a ≤ b → (a ≡ b → ⊥) → a < b
    below a b l ne = grind arith
