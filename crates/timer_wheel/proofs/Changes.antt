-- The chains after a timer was put in or taken out.
use Rattle.std.proofs.Common.{ℕ, zero, suc, ◌≡◌, ◌≢◌, ◌+◌, ◌-◌, ◌<◌, ◌==◌, Bool, true, false, List}
use Rattle.std.proofs.Common.{[], ◌∷◌, ◌++◌, length, get_or, set, take, refl, sym, ap, ◌∙◌, subst}
use Rattle.std.proofs.Common.{arith, inl, inr, Option, Some, None}
use Rattle.std.proofs.lemmas.Bool.{cases_eq, both_ways, eq-eqb, ne_eqb, eqb-true, or_parts}
use Rattle.std.proofs.lemmas.List.Folds.{list_any-append}
use Rattle.std.proofs.lemmas.Option.{slice_get-get_or, slice_get_within}
use Rattle.std.specs.List.{slice_get, filter, swap_remove}
use Rattle.timer_queue.specs.declared.timer.Timer.{Timer}
use Rattle.timer_queue.specs.Timers.{is_scheduled, names_once, with_timer, without_timer}
use Rattle.timer_queue.specs.Timers.{IsSchedule}
use Rattle.timer_queue.proofs.Schedules.{with_timer-between, none_filtered, schedule_filtered}
use Rattle.timer_queue.proofs.Members.{Among, any_among, among_filter, among_filtered}
use Rattle.timer_wheel.specs.declared.place.Place.{Place}
use Rattle.timer_wheel.specs.Spokes.{spoke_of, of_spoke, timers_of, Follows}
use Rattle.timer_wheel.specs.Chains.{IsLast, IsGap, linked_heads, linked_places, with_next}
use Rattle.timer_wheel.specs.Chains.{AreChains}
use Rattle.timer_wheel.proofs.Walks.{gap_holds, stands_at}
use Rattle.timer_wheel.proofs.Links.{Relinked, relinked, head_at, among_left, among_right, one_part}
use Rattle.timer_wheel.proofs.Links.{once_front, reaches_kept, follows_kept, follows_on}
use Rattle.timer_wheel.proofs.Spokes.{once_without, filter_with, filter_with_other, filter_without}
use Rattle.timer_wheel.proofs.Spokes.{filter_without_other, none_after, all_after}

-- each place of the first list is one of the second
abbrev pub Keeps : List Place → List Place → Type 0
Keeps places new = (k : ℕ) (p : Place) → slice_get places k ≡ Some p → slice_get new k ≡ Some p

pub is_last_kept : (places new : List Place) (head : Option ℕ) (front : List Timer)
    (last : Option ℕ) → Keeps places new → IsLast places head front last
    → IsLast new head front last
is_last_kept places new head front None keeps h = h
is_last_kept places new head front (Some q) keeps h = (
  h.0,
  h.1,
  h.2,
  keeps q h.1 h.3,
  reaches_kept places new head h.0 (Some q) h.4
      (λ k p e a. keeps k p e),
)

pub keeps_push : (places : List Place) (x : Place) → Keeps places (places ++ x ∷ [])
keeps_push [] x k p h = absurd (cc)
keeps_push (y ∷ places) x zero p h = h
keeps_push (y ∷ places) x (suc k) p h = keeps_push places x k p h

pub slice_get-pushed : (places : List Place) (x : Place)
    → slice_get (places ++ x ∷ []) (length places) ≡ Some x
slice_get-pushed [] x = refl
slice_get-pushed (y ∷ places) x = slice_get-pushed places x

module _ (spokes resolution : ℕ) where
  abbrev in_spoke : ℕ → Timer → Bool
  in_spoke s t = spoke_of spokes resolution t.deadline == s

  -- the timers of two spokes are others
  other_spoke : (s o : ℕ) (t : Timer) (xs ys : List Timer) → o ≢ s
      → Among t (filter (in_spoke s) xs) → Among t (filter (in_spoke o) ys) → ⊥
  other_spoke s o t xs ys ne a b =
      let x = among_filter (in_spoke s) t xs a in
      let y = among_filter (in_spoke o) t ys b in
      ne (sym (eqb-true _ _ y.1) ∙ eqb-true _ _ x.1)

  -- the chains of the other spokes, when one is changed
  others_stay : (heads : List (Option ℕ)) (places new : List Place) (timers : List Timer) (s : ℕ)
      (front back : List Timer) (last to : Option ℕ)
      → of_spoke spokes resolution s timers ≡ front ++ back
      → ((k : ℕ) (p : Place) → slice_get places k ≡ Some p → (Among p.timer front → ⊥)
      → Among p.timer timers → slice_get new k ≡ Some p)
      → (o : ℕ) → o ≢ s → Follows places (get_or heads o None) (of_spoke spokes resolution o timers)
      → Follows new (get_or (linked_heads heads s last to) o None)
      (of_spoke spokes resolution o timers)
  others_stay heads places new timers s front back last to whole others o ne h =
      subst (λ a. Follows new a (of_spoke spokes resolution o timers))
      (sym (head_at heads s o last to ne))
      (follows_kept places new (get_or heads o None) (of_spoke spokes resolution o timers) h
      (λ k p e a.
      others k p e (λ f. other_spoke s o p.timer timers timers ne
      (subst (λ ts. Among p.timer ts) (sym whole) (among_left p.timer front back f)) a)
      (among_filter (in_spoke o) p.timer timers a).0))

  -- ---- a timer put in

  pub chains_added : (heads : List (Option ℕ)) (places : List Place) (timers : List Timer)
      (t : Timer) (s : ℕ) (last at : Option ℕ) → IsSchedule timers
      → is_scheduled t.timer timers ≡ false → s ≡ spoke_of spokes resolution t.deadline
      → s < length heads
      → IsGap places (get_or heads s None) t (of_spoke spokes resolution s timers) last at
      → AreChains spokes resolution heads places timers
      → AreChains spokes resolution (linked_heads heads s last (Some (length places)))
      (linked_places (places ++ record { timer = t; next = at } ∷ []) last
      (Some (length places))) (with_timer t timers)
  chains_added heads places timers t s last at sched fresh is l gap chains o within =
      elim (cases_eq o s) [
        | inl same ↦ subst (λ i. Follows new (get_or (linked_heads heads s last to) i None)
            (of_spoke spokes resolution i (with_timer t timers))) (sym same)
            (subst (λ ts. Follows new (get_or (linked_heads heads s last to) s None) ts)
            (sym list_is)
            (follows_on new (get_or (linked_heads heads s last to) s None) gap.way.front
            (t ∷ gap.way.back) to r.reaches (
              length places,
              refl,
              added,
              new_there,
              refl,
              follows_kept places new at gap.way.back gap.way.follows
                  (λ k p e a. r.others k p (keeps_push places added k p e)
                  (λ f. one_part gap.way.front gap.way.back p.timer once f a)),
            )))
        | inr ne ↦
            subst (λ ts. Follows new (get_or (linked_heads heads s last to) o None) ts)
            (sym (filter_with_other (in_spoke o) t timers sched fresh
            (ne_eqb _ _ (λ e. ne (sym e ∙ sym is)))))
            (others_stay heads places new timers s gap.way.front gap.way.back last to gap.way.whole
            (λ k p e out a. r.others k p (keeps_push places added k p e) out) o ne
            (chains o within))
      ]
    where
      added : Place
      added = record { timer = t; next = at }

      to : Option ℕ
      to = Some (length places)

      new : List Place
      new = linked_places (places ++ added ∷ []) last to

      once : names_once (gap.way.front ++ gap.way.back) ≡ true
      once = ap names_once (sym gap.way.whole) ∙ (schedule_filtered (in_spoke s) timers sched).once

      r : Relinked (places ++ added ∷ []) new (get_or (linked_heads heads s last to) s None)
          gap.way.front to
      r = relinked (places ++ added ∷ []) heads s gap.way.front last to l
          (once_front gap.way.front gap.way.back once)
          (is_last_kept places (places ++ added ∷ []) (get_or heads s None) gap.way.front last
          (keeps_push places added) gap.way.is_last)

      new_there : slice_get new (length places) ≡ Some added
      new_there = r.others (length places) added (slice_get-pushed places added) (λ f.
          both_ways (is_scheduled t.timer timers) fresh
          (any_among (λ u. u.timer == t.timer) t timers
          (among_filter (in_spoke s) t timers
          (subst (λ ts. Among t ts) (sym gap.way.whole)
          (among_left t gap.way.front gap.way.back f))).0 (eq-eqb _ _ refl)))

      list_is : of_spoke spokes resolution s (with_timer t timers)
          ≡ gap.way.front ++ t ∷ gap.way.back
      list_is =
          filter_with (in_spoke s) t timers sched fresh (eq-eqb _ _ (sym is))
          ∙ ap (with_timer t) gap.way.whole
          ∙ with_timer-between t gap.way.front gap.way.back
          (none_after t gap.way.front gap.way.before) (all_after t gap.way.back gap.behind
          (or_parts (is_scheduled t.timer gap.way.front) (is_scheduled t.timer gap.way.back)
          (sym (list_any-append (λ u. u.timer == t.timer) gap.way.front gap.way.back)
          ∙ ap (is_scheduled t.timer) (sym gap.way.whole)
          ∙ none_filtered (λ u. u.timer == t.timer) (in_spoke s) timers fresh)).1)

  -- ---- a timer taken out

  pub chains_removed : (heads : List (Option ℕ)) (places : List Place) (timers : List Timer)
      (t : Timer) (s : ℕ) (last : Option ℕ) (k : ℕ) (p : Place) → IsSchedule timers → Among t timers
      → s ≡ spoke_of spokes resolution t.deadline → s < length heads
      → IsGap places (get_or heads s None) t (of_spoke spokes resolution s timers) last (Some k)
      → slice_get places k ≡ Some p → AreChains spokes resolution heads places timers
      → (p.timer ≡ t) × AreChains spokes resolution (linked_heads heads s last p.next)
      (linked_places places last p.next) (without_timer t.timer timers)
  chains_removed heads places timers t s last k p sched there is l gap at chains = (
    stands.0,
    λ o within. elim (cases_eq o s) [
      | inl same ↦ subst (λ i. Follows new (get_or (linked_heads heads s last p.next) i None)
          (of_spoke spokes resolution i (without_timer t.timer timers))) (sym same)
          (subst (λ ts. Follows new (get_or (linked_heads heads s last p.next) s None) ts)
          (sym (filter_without (in_spoke s) t timers sched gap.way.front held.0 whole))
          (follows_on new (get_or (linked_heads heads s last p.next) s None) gap.way.front held.0
          p.next r.reaches
          (follows_kept places new p.next held.0 stands.1
          (λ i q e a. r.others i q e (λ f. one_part gap.way.front (t ∷ held.0) q.timer once f
          (inr a))))))
      | inr ne ↦
          subst (λ ts. Follows new (get_or (linked_heads heads s last p.next) o None) ts)
          (sym (filter_without_other (in_spoke o) t timers sched there
          (ne_eqb _ _ (λ e. ne (sym e ∙ sym is)))))
          (others_stay heads places new timers s gap.way.front gap.way.back last p.next
          gap.way.whole (λ i q e out a. r.others i q e out) o ne (chains o within))
    ],
  )
    where
      new : List Place
      new = linked_places places last p.next

      ts : List Timer
      ts = of_spoke spokes resolution s timers

      part : IsSchedule ts
      part = schedule_filtered (in_spoke s) timers sched

      held : (rest : List Timer) × (gap.way.back ≡ t ∷ rest)
      held = gap_holds places (get_or heads s None) t ts last (Some k) gap part.rising
          (among_filtered (in_spoke s) t timers there (eq-eqb _ _ (sym is)))

      whole : ts ≡ gap.way.front ++ t ∷ held.0
      whole = gap.way.whole ∙ ap (λ b. gap.way.front ++ b) held.1

      once : names_once (gap.way.front ++ t ∷ held.0) ≡ true
      once = ap names_once (sym whole) ∙ part.once

      stands : (p.timer ≡ t) × Follows places p.next held.0
      stands = let x = stands_at places k p gap.way.back gap.way.follows at in
          same_cons p.timer t x.0 held.0 (sym x.1 ∙ held.1) x.2
        where
          same_cons : (a b : Timer) (xs ys : List Timer) → a ∷ xs ≡ b ∷ ys
              → Follows places p.next xs → (a ≡ b) × Follows places p.next ys
          same_cons a b xs ys e f = let x : a ≡ b = cc in let y : xs ≡ ys = cc in
              (x, subst (λ zs. Follows places p.next zs) y f)

      r : Relinked places new (get_or (linked_heads heads s last p.next) s None) gap.way.front
          p.next
      r = relinked places heads s gap.way.front last p.next l
          (once_front gap.way.front (t ∷ held.0) once) gap.way.is_last

  -- ---- the last place in another's place

  -- the place `from` stands at `to` now, and no chain led to `to`
  pub chains_moved : (heads : List (Option ℕ)) (places new : List Place) (timers : List Timer)
      (s : ℕ) (last : Option ℕ) (from to : ℕ) (p : Place) → IsSchedule timers → Among p.timer timers
      → s ≡ spoke_of spokes resolution p.timer.deadline → s < length heads
      → IsGap places (get_or heads s None) p.timer (of_spoke spokes resolution s timers) last
      (Some from) → slice_get places from ≡ Some p
      → AreChains spokes resolution heads places timers
      → slice_get new to ≡ Some p
      → ((k : ℕ) (q : Place) → slice_get (linked_places places last (Some to)) k ≡ Some q
      → Among q.timer timers → (q.timer ≡ p.timer → ⊥) → slice_get new k ≡ Some q)
      → AreChains spokes resolution (linked_heads heads s last (Some to)) new timers
  chains_moved heads places new timers s last from to p sched there is l gap at chains new_there
      kept o within =
      elim (cases_eq o s) [
        | inl same ↦ subst (λ i. Follows new (get_or (linked_heads heads s last (Some to)) i None)
            (of_spoke spokes resolution i timers)) (sym same)
            (subst (λ xs. Follows new (get_or (linked_heads heads s last (Some to)) s None) xs)
            (sym whole)
            (follows_on new (get_or (linked_heads heads s last (Some to)) s None) gap.way.front
            (p.timer ∷ held.0) (Some to)
            (reaches_kept mid new (get_or (linked_heads heads s last (Some to)) s None)
            gap.way.front (Some to) r.reaches (λ k q e a.
            kept k q e (of_ts q.timer (among_left q.timer gap.way.front (p.timer ∷ held.0) a))
            (λ x. one_part gap.way.front (p.timer ∷ held.0) q.timer once a (inl (sym x))))) (
              to,
              refl,
              p,
              new_there,
              refl,
              follows_kept mid new p.next held.0
                  (follows_kept places mid p.next held.0 stands
                  (λ i q e a. r.others i q e (λ f. one_part gap.way.front (p.timer ∷ held.0)
                  q.timer once f (inr a))))
                  (λ k q e a. kept k q e (of_ts q.timer
                  (among_right q.timer gap.way.front (p.timer ∷ held.0) (inr a)))
                  (λ x. not_twice (subst (λ u. Among u held.0) x a))),
            )))
        | inr ne ↦
            follows_kept mid new (get_or (linked_heads heads s last (Some to)) o None)
            (of_spoke spokes resolution o timers)
            (others_stay heads places mid timers s gap.way.front gap.way.back last (Some to)
            gap.way.whole (λ i q e out a. r.others i q e out) o ne (chains o within))
            (λ k q e a. kept k q e (among_filter (in_spoke o) q.timer timers a).0 (λ x.
            other_spoke s o p.timer timers timers ne
            (among_filtered (in_spoke s) p.timer timers there (eq-eqb _ _ (sym is)))
            (subst (λ u. Among u (of_spoke spokes resolution o timers)) x a)))
      ]
    where
      mid : List Place
      mid = linked_places places last (Some to)

      ts : List Timer
      ts = of_spoke spokes resolution s timers

      part : IsSchedule ts
      part = schedule_filtered (in_spoke s) timers sched

      held : (rest : List Timer) × (gap.way.back ≡ p.timer ∷ rest)
      held = gap_holds places (get_or heads s None) p.timer ts last (Some from) gap part.rising
          (among_filtered (in_spoke s) p.timer timers there (eq-eqb _ _ (sym is)))

      whole : ts ≡ gap.way.front ++ p.timer ∷ held.0
      whole = gap.way.whole ∙ ap (λ b. gap.way.front ++ b) held.1

      once : names_once (gap.way.front ++ p.timer ∷ held.0) ≡ true
      once = ap names_once (sym whole) ∙ part.once

      of_ts : (u : Timer) → Among u (gap.way.front ++ p.timer ∷ held.0) → Among u timers
      of_ts u a = (among_filter (in_spoke s) u timers (subst (λ xs. Among u xs) (sym whole) a)).0

      not_twice : Among p.timer held.0 → ⊥
      not_twice a = once_without gap.way.front held.0 p.timer p.timer once
          (among_right p.timer gap.way.front held.0 a) refl

      stands : Follows places p.next held.0
      stands = let x = stands_at places from p gap.way.back gap.way.follows at in
          same_rest p.timer p.timer x.0 held.0 (sym x.1 ∙ held.1) x.2
        where
          same_rest : (a b : Timer) (xs ys : List Timer) → a ∷ xs ≡ b ∷ ys
              → Follows places p.next xs → Follows places p.next ys
          same_rest a b xs ys e f = let y : xs ≡ ys = cc in
              subst (λ zs. Follows places p.next zs) y f

      r : Relinked places mid (get_or (linked_heads heads s last (Some to)) s None) gap.way.front
          (Some to)
      r = relinked places heads s gap.way.front last (Some to) l
          (once_front gap.way.front (p.timer ∷ held.0) once) gap.way.is_last

-- ---- places

pub timers-linked : (places : List Place) (last to : Option ℕ)
    → timers_of (linked_places places last to) ≡ timers_of places
timers-linked places None to = refl
timers-linked places (Some q) to = at (slice_get places q) refl
  where
    at : (o : Option Place) → slice_get places q ≡ o
        → timers_of (with_next places q to o) ≡ timers_of places
    at None e = refl
    at (Some p) e = written places q p e
      where
        written : (xs : List Place) (i : ℕ) (x : Place) → slice_get xs i ≡ Some x
            → timers_of (set xs i (record x { next = to })) ≡ timers_of xs
        written [] i x e = refl
        written (y ∷ xs) zero x e = ap (λ u. u ∷ timers_of xs) (timer_is e)
          where
            timer_is : Some y ≡ Some x → x.timer ≡ y.timer
            timer_is h = let z : y ≡ x = cc in ap (λ v. v.timer) (sym z)
        written (y ∷ xs) (suc i) x e = ap (λ us. y.timer ∷ us) (written xs i x e)

pub slice_get-take : (xs : List Place) (n k : ℕ) → k < n → slice_get (take n xs) k ≡ slice_get xs k
slice_get-take xs zero k l = absurd (omega arith)
slice_get-take [] (suc n) k l = refl
slice_get-take (x ∷ xs) (suc n) zero l = refl
slice_get-take (x ∷ xs) (suc n) (suc k) l = slice_get-take xs n k (omega arith)

slice_get-set : (xs : List Place) (i k : ℕ) (x : Place) → k ≢ i
    → slice_get (set xs i x) k ≡ slice_get xs k
slice_get-set [] i k x ne = refl
slice_get-set (y ∷ xs) zero zero x ne = absurd (ne refl)
slice_get-set (y ∷ xs) zero (suc k) x ne = refl
slice_get-set (y ∷ xs) (suc i) zero x ne = refl
slice_get-set (y ∷ xs) (suc i) (suc k) x ne = slice_get-set xs i k x (λ e. ne (ap suc e))

slice_get-set_here : (xs : List Place) (i : ℕ) (x : Place) → i < length xs
    → slice_get (set xs i x) i ≡ Some x
slice_get-set_here [] i x l = absurd (omega arith)
slice_get-set_here (y ∷ xs) zero x l = refl
slice_get-set_here (y ∷ xs) (suc i) x l = slice_get-set_here xs i x (omega arith)

pub moved_there : (xs : List Place) (i : ℕ) (d : Place) → i + 1 < length xs
    → slice_get (swap_remove xs i d) i ≡ slice_get xs (length xs - 1)
moved_there xs i d l =
    slice_get-take (set xs i (get_or xs (length xs - 1) d)) (length xs - 1) i (omega arith)
    ∙ slice_get-set_here xs i (get_or xs (length xs - 1) d) (omega arith)
    ∙ sym (slice_get-get_or xs (length xs - 1) d (omega arith))

pub stays_there : (xs : List Place) (i k : ℕ) (d : Place) → k ≢ i → k + 1 < length xs
    → slice_get (swap_remove xs i d) k ≡ slice_get xs k
stays_there xs i k d ne l =
    slice_get-take (set xs i (get_or xs (length xs - 1) d)) (length xs - 1) k (omega arith)
    ∙ slice_get-set xs i k (get_or xs (length xs - 1) d) ne

-- if the last place goes, every other stays
pub chains_cut : (spokes resolution : ℕ) (heads : List (Option ℕ)) (places new : List Place)
    (timers : List Timer) → new ≡ take (length places - 1) places
    → ((p : Place) → slice_get places (length places - 1) ≡ Some p → Among p.timer timers → ⊥)
    → AreChains spokes resolution heads places timers
    → AreChains spokes resolution heads new timers
chains_cut spokes resolution heads places new timers is out chains o within =
    follows_kept places new (get_or heads o None) (of_spoke spokes resolution o timers)
    (chains o within) (λ k p e a.
    let l : k < length places = slice_get_within places k p e in
    let ne : k ≢ length places - 1 = λ same.
    out p (ap (slice_get places) (sym same) ∙ e)
    (among_filter (λ t. spoke_of spokes resolution t.deadline == o) p.timer timers a).0 in
    ap (λ ps. slice_get ps k) is ∙ slice_get-take places (length places - 1) k (omega arith) ∙ e)
