-- A rising list of timers is settled by its members: timers that are held in any order, and the
-- list that they stand for.
use Rattle.std.proofs.Common.{ℕ, zero, suc, ◌≡◌, ◌≢◌, ◌<◌, ◌==◌, Bool, true, false, not, ◌||◌, List}
use Rattle.std.proofs.Common.{[], ◌∷◌, length, get_or, refl, sym, ap, ◌∙◌, subst, arith, cond, ◌⊎◌}
use Rattle.std.proofs.Common.{inl, inr, Contains}
use Rattle.std.proofs.lemmas.Bool.{and_parts, and_from, both_ways, cond-true, cond-false, ne_eqb}
use Rattle.std.proofs.lemmas.Bool.{cases_Bool}
use Rattle.std.proofs.lemmas.List.Sorted.{IsPermutation-sym, IsPermutation-swap}
use Rattle.std.proofs.lemmas.List.Sorted.{IsPermutation-trans, IsPermutation-cons}
use Rattle.std.proofs.lemmas.List.Sorted.{IsPermutation-refl, Contains-permutation}
use Rattle.std.specs.List.{list_any, list_all, filter}
use Rattle.std.specs.List.Sorted.{IsPermutation}
use Rattle.timer_queue.specs.declared.timer.Timer.{Timer}
use Rattle.timer_queue.specs.Timers.{comes_before, is_rising, is_scheduled, names_once, with_timer}
use Rattle.timer_queue.specs.Timers.{in_order, AreApart, IsSchedule}
use Rattle.timer_queue.proofs.Schedules.{before_not, schedule_with, schedule_none}

-- the timer is one of the list
abbrev pub Among : Timer → List Timer → Type 0
Among t [] = ⊥
Among t (u ∷ rest) = (u ≡ t) ⊎ Among t rest

-- the two lists have the same timers
pub record SameMembers (xs ys : List Timer) : Type 0 where
  pub there : (t : Timer) → Among t xs → Among t ys
  pub back : (t : Timer) → Among t ys → Among t xs

pub among_at : (t : Timer) (xs : List Timer) → Among t xs → Contains xs t
among_at t [] h = absurd h
among_at t (u ∷ xs) (inl e) = (zero, omega arith, e)
among_at t (u ∷ xs) (inr h) = let r = among_at t xs h in (suc r.0, omega (arith, r.1), r.2)

pub among_from : (t : Timer) (xs : List Timer) → Contains xs t → Among t xs
among_from t xs h = at_place xs h.0 h.1 h.2
  where
    at_place : (ys : List Timer) (k : ℕ) → k < length ys → get_or ys k t ≡ t → Among t ys
    at_place [] k l e = absurd (omega arith)
    at_place (y ∷ ys) zero l e = inl e
    at_place (y ∷ ys) (suc k) l e = inr (at_place ys k (omega arith) e)

pub members_permutation : (xs ys : List Timer) → IsPermutation xs ys → SameMembers xs ys
members_permutation xs ys p = record {
  there = λ t h. among_from t ys (Contains-permutation xs ys t p (among_at t xs h));
  back = λ t h. among_from t xs (Contains-permutation ys xs t (IsPermutation-sym xs ys p)
      (among_at t ys h));
}

-- ---- tests, filters and one timer more

pub any_among : (p : Timer → Bool) (t : Timer) (xs : List Timer) → Among t xs → p t ≡ true
    → list_any p xs ≡ true
any_among p t [] h e = absurd h
any_among p t (u ∷ xs) (inl s) e = subst (λ b. (b || list_any p xs) ≡ true) (sym (ap p s ∙ e)) refl
any_among p t (u ∷ xs) (inr h) e = grind (arith, any_among p t xs h e)

pub all_among : (p : Timer → Bool) (xs : List Timer) → ((t : Timer) → Among t xs → p t ≡ true)
    → list_all p xs ≡ true
all_among p [] h = refl
all_among p (u ∷ xs) h = and_from (p u) (list_all p xs) (h u (inl refl))
    (all_among p xs (λ t m. h t (inr m)))

pub all_at : (p : Timer → Bool) (t : Timer) (xs : List Timer) → list_all p xs ≡ true → Among t xs
    → p t ≡ true
all_at p t [] h m = absurd m
all_at p t (u ∷ xs) h (inl s) = ap p (sym s) ∙ (and_parts (p u) (list_all p xs) h).0
all_at p t (u ∷ xs) h (inr m) = all_at p t xs (and_parts (p u) (list_all p xs) h).1 m

pub among_filter : (q : Timer → Bool) (t : Timer) (xs : List Timer) → Among t (filter q xs)
    → Among t xs × (q t ≡ true)
among_filter q t [] h = absurd h
among_filter q t (u ∷ xs) h =
    elim (cases_Bool (q u)) [
      | inl passes ↦
          let g : (u ≡ t) ⊎ Among t (filter q xs) =
          subst (λ ys. Among t ys) (cond-true (q u) (u ∷ filter q xs) (filter q xs) passes) h in
          elim g [
            | inl s ↦ (inl s, ap q (sym s) ∙ passes)
            | inr m ↦ let r = among_filter q t xs m in (inr r.0, r.1)
          ]
      | inr no' ↦
          let r = among_filter q t xs (subst (λ ys. Among t ys)
          (cond-false (q u) (u ∷ filter q xs) (filter q xs) no') h) in
          (inr r.0, r.1)
    ]

pub among_filtered : (q : Timer → Bool) (t : Timer) (xs : List Timer) → Among t xs → q t ≡ true
    → Among t (filter q xs)
among_filtered q t [] h e = h
among_filtered q t (u ∷ xs) (inl s) e =
    subst (λ ys. Among t ys) (sym (cond-true (q u) (u ∷ filter q xs) (filter q xs) (ap q s ∙ e)))
    (inl s)
among_filtered q t (u ∷ xs) (inr m) e = step (q u) (among_filtered q t xs m e)
  where
    step : (b : Bool) → Among t (filter q xs) → Among t (cond b (u ∷ filter q xs) (filter q xs))
    step true r = inr r
    step false r = r

pub among_with : (a t : Timer) (xs : List Timer) → Among t (with_timer a xs) → (a ≡ t) ⊎ Among t xs
among_with a t [] h = h
among_with a t (u ∷ xs) h = step (comes_before a u) (among_with a t xs) h
  where
    step : (b : Bool) → (Among t (with_timer a xs) → (a ≡ t) ⊎ Among t xs)
        → Among t (cond b (a ∷ u ∷ xs) (u ∷ with_timer a xs)) → (a ≡ t) ⊎ Among t (u ∷ xs)
    step true rest r = r
    step false rest (inl s) = inr (inl s)
    step false rest (inr m) = elim (rest m) [ inl s ↦ inl s | inr n ↦ inr (inr n) ]

pub among_within : (a t : Timer) (xs : List Timer) → (a ≡ t) ⊎ Among t xs
    → Among t (with_timer a xs)
among_within a t [] h = h
among_within a t (u ∷ xs) h = step (comes_before a u) (later (among_within a t xs) h)
  where
    later : ((a ≡ t) ⊎ Among t xs → Among t (with_timer a xs)) → (a ≡ t) ⊎ ((u ≡ t) ⊎ Among t xs)
        → (u ≡ t) ⊎ Among t (with_timer a xs)
    later rest (inl s) = inr (rest (inl s))
    later rest (inr (inl s)) = inl s
    later rest (inr (inr m)) = inr (rest (inr m))

    step : (b : Bool) → (u ≡ t) ⊎ Among t (with_timer a xs)
        → Among t (cond b (a ∷ u ∷ xs) (u ∷ with_timer a xs))
    step true r = h
    step false r = r

pub members_in_order : (xs : List Timer) → SameMembers xs (in_order xs)
members_in_order xs = record { there = there xs; back = back xs }
  where
    there : (ys : List Timer) (t : Timer) → Among t ys → Among t (in_order ys)
    there [] t h = h
    there (y ∷ ys) t (inl s) = among_within y t (in_order ys) (inl s)
    there (y ∷ ys) t (inr m) = among_within y t (in_order ys) (inr (there ys t m))

    back : (ys : List Timer) (t : Timer) → Among t (in_order ys) → Among t ys
    back [] t h = h
    back (y ∷ ys) t h = elim (among_with y t (in_order ys) h)
        [ inl s ↦ inl s | inr m ↦ inr (back ys t m) ]

-- ---- a rising list by its members

before_self : (t : Timer) → comes_before t t ≡ true → ⊥
before_self t h = both_ways (comes_before t t) (before_not t t h) h

rising_parts : (t : Timer) (xs : List Timer) → is_rising (t ∷ xs) ≡ true
    → (list_all (λ u. comes_before t u) xs ≡ true) × (is_rising xs ≡ true)
rising_parts t xs h = and_parts (list_all (λ u. comes_before t u) xs) (is_rising xs) h

pub rising_same : (xs ys : List Timer) → is_rising xs ≡ true → is_rising ys ≡ true
    → SameMembers xs ys → xs ≡ ys
rising_same [] [] h k m = refl
rising_same [] (y ∷ ys) h k m = absurd (m.back y (inl refl))
rising_same (x ∷ xs) [] h k m = absurd (m.there x (inl refl))
rising_same (x ∷ xs) (y ∷ ys) h k m =
    ap (λ z. z ∷ xs) same ∙ ap (λ zs. y ∷ zs)
    (rising_same xs ys p.1 q.1 (record { there = there; back = back }))
  where
    p : (list_all (λ u. comes_before x u) xs ≡ true) × (is_rising xs ≡ true)
    p = rising_parts x xs h

    q : (list_all (λ u. comes_before y u) ys ≡ true) × (is_rising ys ≡ true)
    q = rising_parts y ys k

    same : x ≡ y
    same = elim (m.there x (inl refl)) [
      | inl e ↦ sym e
      | inr a ↦ elim (m.back y (inl refl)) [
        | inl e ↦ e
        | inr b ↦ absurd (both_ways _ (before_not x y (all_at (λ u. comes_before x u) y xs p.0 b))
            (all_at (λ u. comes_before y u) x ys q.0 a))
      ]
    ]

    there : (t : Timer) → Among t xs → Among t ys
    there t a = elim (m.there t (inr a)) [
      | inl e ↦ absurd (before_self x (subst (λ u. comes_before x u ≡ true) (sym (same ∙ e))
          (all_at (λ u. comes_before x u) t xs p.0 a)))
      | inr b ↦ b
    ]

    back : (t : Timer) → Among t ys → Among t xs
    back t a = elim (m.back t (inr a)) [
      | inl e ↦ absurd (before_self y (subst (λ u. comes_before y u ≡ true) (sym (sym same ∙ e))
          (all_at (λ u. comes_before y u) t ys q.0 a)))
      | inr b ↦ b
    ]

-- ---- timers that are held in any order

apart_tail : (t : Timer) (xs : List Timer) → AreApart (t ∷ xs) → AreApart xs
apart_tail t xs h i j d l m = h (suc i) (suc j) d (omega arith) (omega arith)

apart_head : (t : Timer) (xs : List Timer) → AreApart (t ∷ xs) → is_scheduled t.timer xs ≡ false
apart_head t xs h = none xs (λ k d l e. h zero (suc k) d (omega arith) (omega arith) (sym e))
  where
    none : (ys : List Timer) → ((k : ℕ) (d : Timer) → k < length ys
        → (get_or ys k d).timer ≢ t.timer) → is_scheduled t.timer ys ≡ false
    none [] h = refl
    none (y ∷ ys) h = grind (
      arith,
      ne_eqb y.timer t.timer (h zero y (omega arith)),
      none ys (λ k d l. h (suc k) d (omega arith)),
    )

pub once_from_apart : (xs : List Timer) → AreApart xs → names_once xs ≡ true
once_from_apart [] h = refl
once_from_apart (t ∷ xs) h = and_from (not (is_scheduled t.timer xs)) (names_once xs)
    (ap not (apart_head t xs h)) (once_from_apart xs (apart_tail t xs h))

-- no timer of a number that a test finds nowhere
pub not_scheduled : (number : ℕ) (xs ys : List Timer) → SameMembers xs ys
    → is_scheduled number xs ≡ false → is_scheduled number ys ≡ false
not_scheduled number xs ys m h = elim (cases_Bool (is_scheduled number ys)) [
  | inl passes ↦ absurd (both_ways _ h (found ys passes))
  | inr none ↦ none
]
  where
    some : (zs : List Timer) → is_scheduled number zs ≡ true → (t : Timer) × Among t zs
        × ((t.timer == number) ≡ true)
    some [] e = absurd (cc)
    some (z ∷ zs) e = elim (cases_Bool (z.timer == number)) [
      | inl here ↦ (z, inl refl, here)
      | inr other ↦ let r = some zs (subst (λ b. (b || is_scheduled number zs) ≡ true) other e) in
          (r.0, inr r.1, r.2)
    ]

    found : (zs : List Timer) → is_scheduled number ys ≡ true → is_scheduled number xs ≡ true
    found zs e = let r = some ys e in any_among (λ t. t.timer == number) r.0 xs (m.back r.0 r.1) r.2

pub is_scheduled-same : (number : ℕ) (xs ys : List Timer) → SameMembers xs ys
    → is_scheduled number xs ≡ is_scheduled number ys
is_scheduled-same number xs ys m = elim (cases_Bool (is_scheduled number xs)) [
  | inl passes ↦ passes ∙ sym (elim (cases_Bool (is_scheduled number ys)) [
    | inl too ↦ too
    | inr none ↦ absurd (both_ways _ (not_scheduled number ys xs
        (record { there = m.back; back = m.there }) none) passes)
  ])
  | inr none ↦ none ∙ sym (not_scheduled number xs ys m none)
]

-- the list that they stand for is a schedule
pub schedule_in_order : (xs : List Timer) → AreApart xs → IsSchedule (in_order xs)
schedule_in_order [] h = schedule_none
schedule_in_order (t ∷ xs) h =
    schedule_with t (in_order xs) (not_scheduled t.timer xs (in_order xs) (members_in_order xs)
    (apart_head t xs h)) (schedule_in_order xs (apart_tail t xs h))

-- and it is any rising list with these members
pub in_order_is : (xs ts : List Timer) → AreApart xs → is_rising ts ≡ true → SameMembers xs ts
    → in_order xs ≡ ts
in_order_is xs ts apart rising m =
    rising_same (in_order xs) ts (schedule_in_order xs apart).rising rising (record {
      there = λ t h. m.there t ((members_in_order xs).back t h);
      back = λ t h. (members_in_order xs).there t (m.back t h);
    })

-- ---- as permutations

pub permutation_with : (a : Timer) (ts : List Timer) → IsPermutation (a ∷ ts) (with_timer a ts)
permutation_with a [] = IsPermutation-refl (a ∷ [])
permutation_with a (t ∷ ts) = step (comes_before a t) (permutation_with a ts)
  where
    step : (b : Bool) → IsPermutation (a ∷ ts) (with_timer a ts)
        → IsPermutation (a ∷ t ∷ ts) (cond b (a ∷ t ∷ ts) (t ∷ with_timer a ts))
    step true r = IsPermutation-refl (a ∷ t ∷ ts)
    step false r =
        IsPermutation-trans (a ∷ t ∷ ts) (t ∷ a ∷ ts) (t ∷ with_timer a ts)
        (IsPermutation-swap (a ∷ t ∷ ts) (t ∷ a ∷ ts) 0 1 (omega arith) (omega arith) refl)
        (IsPermutation-cons t (a ∷ ts) (with_timer a ts) r)

pub permutation_in_order : (xs : List Timer) → IsPermutation xs (in_order xs)
permutation_in_order [] = IsPermutation-refl []
permutation_in_order (t ∷ xs) =
    IsPermutation-trans (t ∷ xs) (t ∷ in_order xs) (with_timer t (in_order xs))
    (IsPermutation-cons t xs (in_order xs) (permutation_in_order xs))
    (permutation_with t (in_order xs))
