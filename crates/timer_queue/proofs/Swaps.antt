-- The exchange of two places.
use Rattle.std.proofs.Common.{ℕ, ◌≡◌, ◌≢◌, ◌<◌, ◌==◌, cond, List, length, get_or, refl, sym, ap}
use Rattle.std.proofs.Common.{◌∙◌, arith, ◌⊎◌, inl, inr}
use Rattle.std.proofs.lemmas.Bool.{cases_eq}
use Rattle.std.proofs.lemmas.Bool.Decides.{nat_tests}
use Rattle.std.proofs.lemmas.List.Edits.{swapped_from_swap, length-swap}
use Rattle.std.proofs.lemmas.List.Sorted.{IsPermutation-keeps}
use Rattle.std.specs.List.{swap}
use Rattle.std.specs.List.Sorted.{IsPermutation}
use Rattle.timer_queue.specs.declared.timer.Timer.{Timer}
use Rattle.timer_queue.specs.Timers.{AreApart}

-- the place whose element the exchange of i and j brings to a place
abbrev pub brought : ℕ → ℕ → ℕ → ℕ
brought i j k = cond (k == i) j (cond (k == j) i k)

pub brought_within : (i j k n : ℕ) → i < n → j < n → k < n → brought i j k < n
brought_within i j k n a b c = grind (arith, nat_tests)

pub brought_apart : (i j k l : ℕ) → k ≢ l → brought i j k ≢ brought i j l
brought_apart i j k l ne e = grind (arith, nat_tests)

pub brought_here : (i j : ℕ) → brought i j i ≡ j
brought_here i j = grind (arith, nat_tests)

pub brought_there : (i j : ℕ) → brought i j j ≡ i
brought_there i j = grind (arith, nat_tests)

pub brought_other : (i j k : ℕ) → k ≢ i → k ≢ j → brought i j k ≡ k
brought_other i j k a b = grind (arith, nat_tests)

pub get_or-swap : {X : Type 0} (xs : List X) (i j k : ℕ) (d : X) → i < length xs → j < length xs
    → get_or (swap xs i j) k d ≡ get_or xs (brought i j k) d
get_or-swap xs i j k d l m =
    let s = swapped_from_swap xs (swap xs i j) i j d l m refl in
    elim (cases_eq k i) [
      | inl a ↦ ap (λ n. get_or (swap xs i j) n d) a ∙ s.0
          ∙ ap (λ n. get_or xs n d) (sym (ap (brought i j) a ∙ brought_here i j))
      | inr a ↦ elim (cases_eq k j) [
        | inl b ↦ ap (λ n. get_or (swap xs i j) n d) b ∙ s.1
            ∙ ap (λ n. get_or xs n d) (sym (ap (brought i j) b ∙ brought_there i j))
        | inr b ↦ s.2 k a b ∙ ap (λ n. get_or xs n d) (sym (brought_other i j k a b))
      ]
    ]

-- two timers at different places have different numbers
pub apart_at : (xs : List Timer) (i j : ℕ) (d : Timer) → AreApart xs → i ≢ j → i < length xs
    → j < length xs → (get_or xs i d).timer ≢ (get_or xs j d).timer
apart_at xs i j d h ne l m e =
    elim (order i j ne) [
      | inl less ↦ h i j d less m e
      | inr more ↦ h j i d more l (sym e)
    ]
  where
    order : (m n : ℕ) → m ≢ n → (m < n) ⊎ (n < m)
    order m n ne = grind arith

apart_swap : (xs : List Timer) (i j : ℕ) → i < length xs → j < length xs → AreApart xs
    → AreApart (swap xs i j)
apart_swap xs i j l m h a b d less within e =
    let n : length (swap xs i j) ≡ length xs = length-swap xs i j in
    apart_at xs (brought i j a) (brought i j b) d h (brought_apart i j a b (omega arith))
    (brought_within i j a (length xs) l m (omega arith))
    (brought_within i j b (length xs) l m (omega arith))
    (ap (λ t. t.timer) (sym (get_or-swap xs i j a d l m)) ∙ e
    ∙ ap (λ t. t.timer) (get_or-swap xs i j b d l m))

pub apart_permutation : (xs ys : List Timer) → IsPermutation xs ys → AreApart xs → AreApart ys
apart_permutation xs ys p h = IsPermutation-keeps xs AreApart h
    (λ l i j a b k. apart_swap l i j a b k) ys p
