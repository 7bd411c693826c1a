-- A schedule by places.
use Rattle.std.proofs.Common.{ℕ, zero, suc, ◌≡◌, ◌≢◌, ◌<◌, ◌≤◌, ◌==◌, Bool, true, false, not, List}
use Rattle.std.proofs.Common.{[], ◌∷◌, length, get_or, ap, ◌∙◌, arith}
use Rattle.std.proofs.lemmas.Bool.{and_parts, or_parts, not-true, cond-true, cond-false, eq-eqb}
use Rattle.std.proofs.lemmas.Bool.{both_ways}
use Rattle.std.proofs.lemmas.Bool.Decides.{nat_tests}
use Rattle.std.proofs.lemmas.List.Sums.{AllPass-from_list_all, list_all-from_AllPass}
use Rattle.std.specs.List.{list_any, list_all, filter, remove, All}
use Rattle.timer_queue.specs.declared.timer.Timer.{Timer}
use Rattle.timer_queue.specs.Timers.{comes_before, is_rising, is_scheduled, names_once}
use Rattle.timer_queue.proofs.Schedules.{filter_all}

module _ {X : Type 0} where
  -- an element that passes at no place is found by no test
  pub none_at : (p : X → Bool) (xs : List X) (k : ℕ) (d : X) → k < length xs → list_any p xs ≡ false
      → p (get_or xs k d) ≡ false
  none_at p [] k d l h = absurd (omega arith)
  none_at p (x ∷ xs) zero d l h = (or_parts (p x) (list_any p xs) h).0
  none_at p (x ∷ xs) (suc k) d l h =
      none_at p xs k d (omega arith) (or_parts (p x) (list_any p xs) h).1

  -- a filter that one place alone does not pass takes that place out
  pub filter_place : (q : X → Bool) (xs : List X) (p : ℕ) → ((d : X) → q (get_or xs p d) ≡ false)
      → ((k : ℕ) (d : X) → k < length xs → k ≢ p → q (get_or xs k d) ≡ true) → p < length xs
      → filter q xs ≡ remove xs p
  filter_place q [] p out others l = absurd (omega arith)
  filter_place q (x ∷ xs) zero out others l =
      cond-false (q x) (x ∷ filter q xs) (filter q xs) (out x)
      ∙ filter_all q xs (list_all-from_AllPass q xs
      (λ k d h. others (suc k) d (omega arith) (omega arith)))
  filter_place q (x ∷ xs) (suc p) out others l =
      cond-true (q x) (x ∷ filter q xs) (filter q xs) (others zero x (omega arith) (omega arith))
      ∙ ap (λ ys. x ∷ ys) (filter_place q xs p out
      (λ k d h ne. others (suc k) d (omega arith) (omega arith)) (omega arith))

-- ---- places of a schedule

pub rising_at : (ts : List Timer) (i j : ℕ) (d : Timer) → is_rising ts ≡ true → i < j
    → j < length ts → comes_before (get_or ts i d) (get_or ts j d) ≡ true
rising_at [] i j d h l m = absurd (omega arith)
rising_at (t ∷ ts) i zero d h l m = absurd (omega arith)
rising_at (t ∷ ts) zero (suc j) d h l m =
    AllPass-from_list_all (λ u. comes_before t u) ts
    (and_parts (list_all (λ u. comes_before t u) ts) (is_rising ts) h).0 j d (omega arith)
rising_at (t ∷ ts) (suc i) (suc j) d h l m =
    rising_at ts i j d (and_parts (list_all (λ u. comes_before t u) ts) (is_rising ts) h).1
    (omega arith) (omega arith)

pub once_at : (ts : List Timer) (i j : ℕ) (d : Timer) → names_once ts ≡ true → i < j → j < length ts
    → (get_or ts j d).timer ≢ (get_or ts i d).timer
once_at [] i j d h l m e = omega arith
once_at (t ∷ ts) i zero d h l m e = omega arith
once_at (t ∷ ts) zero (suc j) d h l m e =
    let none : is_scheduled t.timer ts ≡ false =
    not-true _ (and_parts (not (is_scheduled t.timer ts)) (names_once ts) h).0 in
    both_ways _ (none_at (λ u. u.timer == t.timer) ts j d (omega arith) none) (eq-eqb _ _ e)
once_at (t ∷ ts) (suc i) (suc j) d h l m e =
    once_at ts i j d (and_parts (not (is_scheduled t.timer ts)) (names_once ts) h).1 (omega arith)
    (omega arith) e

-- if the first of a rising list is not reached, none is
pub none_due : (now : ℕ) (ts : List Timer) → is_rising ts ≡ true
    → ((d : Timer) → now < (get_or ts 0 d).deadline) → All (λ u. now < u.deadline) ts
none_due now ts h first zero d m = first d
none_due now ts h first (suc k) d m =
    let b : comes_before (get_or ts 0 d) (get_or ts (suc k) d) ≡ true =
    rising_at ts zero (suc k) d h (omega arith) m in
    let e : (get_or ts 0 d).deadline ≤ (get_or ts (suc k) d).deadline =
    not_later (get_or ts 0 d) (get_or ts (suc k) d) b in
    let f : now < (get_or ts 0 d).deadline = first d in
    omega arith
  where
    not_later : (a b : Timer) → comes_before a b ≡ true → a.deadline ≤ b.deadline
    not_later a b h = grind (arith, nat_tests)
