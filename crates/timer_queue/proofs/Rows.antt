-- A schedule that stands in a list from a place on.
use Rattle.std.proofs.Common.{ℕ, zero, suc, ◌≡◌, ◌≢◌, ◌+◌, ◌-◌, ◌<◌, ◌≤◌, ◌==◌, Bool, true, false}
use Rattle.std.proofs.Common.{not, cond, List, [], ◌∷◌, ◌++◌, length, get_or, take, drop, refl, sym}
use Rattle.std.proofs.Common.{ap, ◌∙◌, subst, arith, ◌⊎◌, inl, inr}
use Rattle.std.proofs.lemmas.Bool.{not-true, eqb-true, ne_eqb, both_ways, cases_eq}
use Rattle.std.proofs.lemmas.Bool.{false_from_ne_true, and_parts, and_from, or_parts}
use Rattle.std.proofs.lemmas.List.Folds.{list_all-append, list_any-append}
use Rattle.std.proofs.lemmas.List.{take_all, take_more, append_assoc, drop-drop, length-take-le}
use Rattle.std.proofs.lemmas.List.{length-drop, get_or-take, get_or-drop, take-append-drop}
use Rattle.std.proofs.lemmas.List.Sums.{list_all-from_AllPass}
use Rattle.std.specs.List.{filter, insert, remove, AllPass, AllWithin, list_all}
use Rattle.std.specs.List.Sorted.{IsPartitionedBy, IsPartitionPoint}
use Rattle.timer_queue.specs.declared.timer.Timer.{Timer}
use Rattle.timer_queue.specs.Timers.{comes_before, is_rising, is_scheduled, names_once, with_timer}
use Rattle.timer_queue.specs.Timers.{without_timer, IsSchedule}
use Rattle.timer_queue.specs.Sorted.{IsSorted}
use Rattle.timer_queue.proofs.Schedules.{before_trans, with_timer-between, schedule_tail}
use Rattle.timer_queue.proofs.Places.{filter_place, rising_at, once_at}

module _ {X : Type 0} where
  -- a change after a place, seen from there
  pub insert_behind : (xs : List X) (h j : ℕ) (x : X) → h ≤ length xs
      → drop h (insert xs (h + j) x) ≡ insert (drop h xs) j x
  insert_behind xs zero j x l = let e : 0 + j ≡ j = omega arith in ap (λ n. insert xs n x) e
  insert_behind [] (suc h) j x l = absurd (omega arith)
  insert_behind (y ∷ xs) (suc h) j x l =
      let e : suc h + j ≡ suc (h + j) = omega arith in
      ap (λ n. drop (suc h) (insert (y ∷ xs) n x)) e ∙ insert_behind xs h j x (omega arith)

  pub remove_behind : (xs : List X) (h j : ℕ) → h ≤ length xs
      → drop h (remove xs (h + j)) ≡ remove (drop h xs) j
  remove_behind xs zero j l = let e : 0 + j ≡ j = omega arith in ap (λ n. remove xs n) e
  remove_behind [] (suc h) j l = absurd (omega arith)
  remove_behind (y ∷ xs) (suc h) j l =
      let e : suc h + j ≡ suc (h + j) = omega arith in
      ap (λ n. drop (suc h) (remove (y ∷ xs) n)) e ∙ remove_behind xs h j (omega arith)

  pub from_place : (xs : List X) (h : ℕ) → take (length xs - h) (drop h xs) ≡ drop h xs
  from_place xs h = take_all (length xs - h) (drop h xs) (omega (arith, length-drop h xs))

  drop_exact : (us vs : List X) (n : ℕ) → n ≡ length us → drop n (us ++ vs) ≡ vs
  drop_exact [] vs zero e = refl
  drop_exact [] vs (suc n) e = absurd (omega arith)
  drop_exact (a ∷ us) vs zero e = absurd (omega arith)
  drop_exact (a ∷ us) vs (suc n) e = drop_exact us vs n (omega arith)

  take_exact : (us vs : List X) (n : ℕ) → n ≡ length us → take n (us ++ vs) ≡ us
  take_exact [] vs zero e = refl
  take_exact [] vs (suc n) e = absurd (omega arith)
  take_exact (a ∷ us) vs zero e = absurd (omega arith)
  take_exact (a ∷ us) vs (suc n) e = ap (λ ys. a ∷ ys) (take_exact us vs n (omega arith))

  -- a part from a place on, whose last element comes to its front
  pub pulled : (xs ys : List X) (h p k : ℕ) (d : X) → k ≡ p + 1 → h + p < length xs
      → ys ≡ drop (length (take k (drop h xs)) - 1) (take k (drop h xs))
      ++ take (length (take k (drop h xs)) - 1) (take k (drop h xs))
      → drop (h + 1) (take h xs ++ (ys ++ drop k (drop h xs))) ≡ remove (drop h xs) p
  pulled xs ys h p k d e l is =
      sym (drop-drop 1 h (take h xs ++ (ys ++ drop k part)))
      ∙ ap (drop 1) (drop_exact (take h xs) (ys ++ drop k part) h
      (sym (length-take-le h xs (omega arith)))) ∙ ap (λ zs. drop 1 (zs ++ drop k part)) turned
      ∙ ap (λ n. take p part ++ drop n part) next
    where
      part : List X
      part = drop h xs

      x : X
      x = get_or part p d

      next : k ≡ suc p
      next = omega (arith, e)

      within : p < length part
      within = omega (arith, l, length-drop h xs)

      few : p ≡ length (take p part)
      few = sym (length-take-le p part (omega (arith, within)))

      front : take k part ≡ take p part ++ x ∷ []
      front = ap (λ n. take n part) e ∙ take_more part p d within

      n : length (take k part) - 1 ≡ p
      n = omega (arith, e, length-take-le k part (omega (arith, e, within)))

      turned : ys ≡ x ∷ take p part
      turned =
          is ∙ ap (λ i. drop i (take k part) ++ take i (take k part)) n
          ∙ ap (λ zs. drop p zs ++ take p zs) front
          ∙ ap (λ zs. zs ++ take p (take p part ++ x ∷ []))
          (drop_exact (take p part) (x ∷ []) p few)
          ∙ ap (λ zs. x ∷ zs) (take_exact (take p part) (x ∷ []) p few)

  pub length-filter_le : (q : X → Bool) (xs : List X) → length (filter q xs) ≤ length xs
  length-filter_le q [] = omega arith
  length-filter_le q (x ∷ xs) = step (q x) (length-filter_le q xs)
    where
      step : (b : Bool) → length (filter q xs) ≤ length xs
          → length (cond b (x ∷ filter q xs) (filter q xs)) ≤ length (x ∷ xs)
      step true h = omega arith
      step false h = omega arith

-- in a rising list those that the timer does not come before stand in front
pub rising_parted : (a : Timer) (xs : List Timer) → is_rising xs ≡ true
    → IsPartitionedBy (λ u. not (comes_before a u)) xs
rising_parted a xs h i j d l m e = elim (cases_eq i j) [
  | inl same ↦ subst (λ n. not (comes_before a (get_or xs n d)) ≡ true) (sym same) e
  | inr ne ↦ ap not (false_from_ne_true (comes_before a (get_or xs i d))
      (λ k. both_ways _ (not-true _ e) (before_trans a (get_or xs i d) (get_or xs j d) k
      (rising_at xs i j d h (omega arith) m))))
]

-- a timer put in after those that it does not come before
pub rising_insert : (a : Timer) (xs : List Timer) (p : ℕ) → p ≤ length xs
    → IsPartitionPoint (λ u. not (comes_before a u) ≡ true) (λ u. not (comes_before a u) ≡ false) xs
    p → insert xs p a ≡ with_timer a xs
rising_insert a xs p l parted =
    let front : AllPass (λ u. not (comes_before a u)) (take p xs) = λ k d h.
    let n : length (take p xs) ≡ p = length-take-le p xs l in
    let e : get_or (take p xs) k d ≡ get_or xs k d = get_or-take p xs k d (omega arith) in
    ap (λ u. not (comes_before a u)) e ∙ parted.0 k d (omega arith) (omega arith) in
    let back : AllPass (λ u. comes_before a u) (drop p xs) = λ k d h.
    let n : length (drop p xs) ≡ length xs - p = length-drop p xs in
    let e : get_or (drop p xs) k d ≡ get_or xs (p + k) d = get_or-drop p xs k d in
    ap (λ u. comes_before a u) e ∙ from_not _ (parted.1 (p + k) d (omega arith) (omega arith)) in
    sym (ap (with_timer a) (sym (take-append-drop p xs))
    ∙ with_timer-between a (take p xs) (drop p xs)
    (list_all-from_AllPass (λ u. not (comes_before a u)) (take p xs) front)
    (list_all-from_AllPass (λ u. comes_before a u) (drop p xs) back))
  where
    from_not : (b : Bool) → not b ≡ false → b ≡ true
    from_not true h = refl
    from_not false h = absurd (cc)

-- two places have timers of different numbers
once_apart : (xs : List Timer) (i j : ℕ) (d : Timer) → names_once xs ≡ true → i ≢ j → i < length xs
    → j < length xs → (get_or xs j d).timer ≢ (get_or xs i d).timer
once_apart xs i j d once ne l m e = elim (order i j ne) [
  | inl less ↦ once_at xs i j d once less m e
  | inr more ↦ once_at xs j i d once more l (sym e)
]
  where
    order : (m n : ℕ) → m ≢ n → (m < n) ⊎ (n < m)
    order m n ne = grind arith

-- the timer of a number taken out
pub remove_numbered : (number : ℕ) (xs : List Timer) (p : ℕ) → names_once xs ≡ true → p < length xs
    → ((d : Timer) → ((get_or xs p d).timer == number) ≡ true)
    → remove xs p ≡ without_timer number xs
remove_numbered number xs p once l at =
    let q : Timer → Bool = λ t. not (t.timer == number) in
    let others : (k : ℕ) (d : Timer) → k < length xs → k ≢ p → q (get_or xs k d) ≡ true =
    λ k d h ne. ap not (ne_eqb _ _ (λ e.
    once_apart xs k p d once ne h l (eqb-true _ _ (at d) ∙ sym e))) in
    sym (filter_place q xs p (λ d. ap not (at d)) others l)

-- a timer that the last does not come after stands after them all
pub put_last : (a : Timer) (xs : List Timer) → is_rising xs ≡ true
    → ((d : Timer) → 0 < length xs → comes_before a (get_or xs (length xs - 1) d) ≡ false)
    → insert xs (length xs) a ≡ with_timer a xs
put_last a xs h last =
    rising_insert a xs (length xs) (omega arith) (
      λ k d low l. elim (cases_eq k (length xs - 1)) [
        | inl same ↦ ap not (ap (λ n. comes_before a (get_or xs n d)) same ∙ last d (omega arith))
        | inr ne ↦ ap not (false_from_ne_true (comes_before a (get_or xs k d))
            (λ b. both_ways _ (last d (omega arith))
            (before_trans a (get_or xs k d) (get_or xs (length xs - 1) d) b
            (rising_at xs k (length xs - 1) d h (omega arith) (omega arith)))))
      ],
      λ k d low l. absurd (omega arith),
    )

-- ---- a schedule in two parts

pub schedule_back : (xs ys : List Timer) → IsSchedule (xs ++ ys) → IsSchedule ys
schedule_back [] ys h = h
schedule_back (x ∷ xs) ys h = schedule_back xs ys (schedule_tail x (xs ++ ys) h)

pub schedule_front : (xs ys : List Timer) → IsSchedule (xs ++ ys) → IsSchedule xs
schedule_front xs ys h = record { rising = rising xs h.rising; once = once xs h.once }
  where
    rising : (zs : List Timer) → is_rising (zs ++ ys) ≡ true → is_rising zs ≡ true
    rising [] h = refl
    rising (z ∷ zs) h =
        let p : (list_all (λ u. comes_before z u) (zs ++ ys) ≡ true)
        × (is_rising (zs ++ ys) ≡ true) = and_parts
        (list_all (λ u. comes_before z u) (zs ++ ys)) (is_rising (zs ++ ys)) h in
        and_from (list_all (λ u. comes_before z u) zs) (is_rising zs)
        (and_parts (list_all (λ u. comes_before z u) zs) (list_all (λ u. comes_before z u) ys)
        (sym (list_all-append (λ u. comes_before z u) zs ys) ∙ p.0)).0 (rising zs p.1)

    once : (zs : List Timer) → names_once (zs ++ ys) ≡ true → names_once zs ≡ true
    once [] h = refl
    once (z ∷ zs) h =
        let p : (not (is_scheduled z.timer (zs ++ ys)) ≡ true) × (names_once (zs ++ ys) ≡ true) =
        and_parts (not (is_scheduled z.timer (zs ++ ys))) (names_once (zs ++ ys)) h in
        and_from (not (is_scheduled z.timer zs)) (names_once zs)
        (ap not (or_parts (is_scheduled z.timer zs) (is_scheduled z.timer ys)
        (sym (list_any-append (λ u. u.timer == z.timer) zs ys) ∙ not-true _ p.0)).0)
        (once zs p.1)

-- the part from a place on comes after a timer
pub all_behind : (p : Timer → Bool) (xs : List Timer) (n : ℕ)
    → AllWithin (λ u. p u ≡ true) xs n (length xs) → list_all p (drop n xs) ≡ true
all_behind p xs n h =
    list_all-from_AllPass p (drop n xs) (λ k d l.
    let m : length (drop n xs) ≡ length xs - n = length-drop n xs in
    ap p (get_or-drop n xs k d) ∙ h (n + k) d (omega arith) (omega arith))

-- the front of the timers from a place on goes to another row
module _ (items : List Timer) (h n : ℕ) where
  rest_is : drop n (drop h items) ≡ drop (h + n) items
  rest_is = drop-drop n h items

  pub passed_within : n ≤ length (take (length items - h) (drop h items)) → h ≤ length items
      → h + n ≤ length items
  passed_within l m = omega (arith, l, m, ap length (from_place items h), length-drop h items)

  pub passed_order : (to : List Timer) (k : ℕ) → k ≡ n → IsSchedule (to ++ drop h items)
      → IsSchedule (to ++ take k (drop h items))
  passed_order to k e s =
      subst (λ i. IsSchedule (to ++ take i (drop h items))) (sym e)
      (schedule_front (to ++ take n (drop h items)) (drop n (drop h items))
      (subst IsSchedule (ap (λ zs. to ++ zs) (sym (take-append-drop n (drop h items)))
      ∙ sym (append_assoc to (take n (drop h items)) (drop n (drop h items)))) s))

  pub passed_sorted : (room capacity : ℕ) → h + n ≤ length items → IsSorted items h room capacity
      → IsSorted items (h + n) room capacity
  passed_sorted room capacity l s = record {
    schedule = subst IsSchedule rest_is
        (schedule_back (take n (drop h items)) (drop n (drop h items))
        (subst IsSchedule (sym (take-append-drop n (drop h items))) s.schedule));
    within = l;
    fits = omega (arith, s.fits, length-drop h items, length-drop (h + n) items);
    places = s.places;
  }

  pub passed_timers : (to : List Timer) (k : ℕ) → k ≡ n
      → (to ++ take k (drop h items)) ++ drop (h + n) items ≡ to ++ drop h items
  passed_timers to k e =
      ap (λ i. (to ++ take i (drop h items)) ++ drop (h + n) items) e
      ∙ ap (λ zs. (to ++ take n (drop h items)) ++ zs) (sym rest_is)
      ∙ append_assoc to (take n (drop h items)) (drop n (drop h items))
      ∙ ap (λ zs. to ++ zs) (take-append-drop n (drop h items))

  pub passed_behind : (p : Timer → Bool)
      → AllWithin (λ u. p u ≡ true) (drop h items) n (length (drop h items))
      → list_all p (drop (h + n) items) ≡ true
  passed_behind p b = ap (list_all p) (sym rest_is) ∙ all_behind p (drop h items) n b
