-- The first of the timers.
use Rattle.std.proofs.Common.{ℕ, zero, suc, ◌≡◌, ◌≢◌, ◌+◌, ◌<◌, ◌==◌, Bool, true, false, not, cond}
use Rattle.std.proofs.Common.{List, [], ◌∷◌, ◌++◌, length, get_or, take, drop, refl, sym, ap, ◌∙◌}
use Rattle.std.proofs.Common.{subst, arith, ◌⊎◌, inl, inr, Option, Some, None}
use Rattle.std.proofs.lemmas.Bool.{and_parts, cases_Bool, cond-true, cond-false, both_ways, eq-eqb}
use Rattle.std.proofs.lemmas.Bool.{ne_eqb, cases_eq, not-true}
use Rattle.std.proofs.lemmas.List.{length-map, take_more, map-append, append-nil, append_assoc}
use Rattle.std.proofs.lemmas.List.{take-append-drop, get_or_default}
use Rattle.std.proofs.lemmas.Option.{slice_get-get_or}
use Rattle.std.proofs.lemmas.List.Elements.{All-map}
use Rattle.std.proofs.lemmas.List.Sorted.{IsPermutation-refl}
use Rattle.std.specs.List.{list_all, filter, slice_get, All}
use Rattle.std.specs.List.Sorted.{IsPermutation}
use Rattle.std.specs.Option.{option_map}
use Rattle.timer_queue.specs.declared.timer.Timer.{Timer}
use Rattle.timer_queue.specs.Timers.{comes_before, is_rising, is_scheduled, names_once, with_timer}
use Rattle.timer_queue.specs.Timers.{without_timer, first_deadline, in_order, AreApart, IsSchedule}
use Rattle.timer_queue.proofs.Schedules.{before_trans, before_not, before_other, schedule_filtered}
use Rattle.timer_queue.proofs.Schedules.{without_timer-fresh}
use Rattle.timer_queue.proofs.Places.{none_due}
use Rattle.timer_queue.proofs.Members.{Among, among_at, all_at, among_filtered, members_in_order}
use Rattle.timer_queue.proofs.Members.{schedule_in_order}
use Rattle.timer_wheel.specs.declared.place.Place.{Place}
use Rattle.timer_wheel.specs.Spokes.{spoke_of, timers_of, Follows}
use Rattle.timer_wheel.specs.Chains.{AreChains, IsWheel, earlier_at, earlier_of, first_of}
use Rattle.timer_wheel.specs.Chains.{is_behind, place_timer, head_timer, heads_of}
use Rattle.timer_queue.proofs.Swaps.{apart_at}
use Rattle.timer_wheel.proofs.Links.{among_left, among_right}
use Rattle.timer_queue.proofs.Contents.{apart_push, in_order-added, permutation_pushed}
use Rattle.timer_queue.proofs.Contents.{in_order-removed, apart_removed, length_removed}
use Rattle.timer_queue.proofs.Contents.{length-in_order}
use Rattle.timer_wheel.proofs.Steps.{among_places}

-- one timer more
pub first_of-with : (t : Timer) (timers : List Timer)
    → first_of (with_timer t timers) ≡ earlier_of (first_of timers) t
first_of-with t [] = refl
first_of-with t (u ∷ rest) = step (comes_before t u)
  where
    step : (b : Bool) → first_of (cond b (t ∷ u ∷ rest) (u ∷ with_timer t rest))
        ≡ cond b (Some t) (Some u)
    step true = refl
    step false = refl

-- the first is the first of the list
abbrev pub IsEarliest : List Timer → Option Timer → Type 0
IsEarliest xs None = xs ≡ []
IsEarliest xs (Some f) = Among f xs
    × ((u : Timer) → Among u xs → (f ≡ u) ⊎ (comes_before f u ≡ true))

module _ (all : List Timer) (apart : AreApart all) where
  -- of two of the timers one comes before the other, or they are one
  either : (f t : Timer) → Among f all → Among t all → comes_before t f ≡ false → (f ≡ t)
      ⊎ (comes_before f t ≡ true)
  either f t a b h =
      let x = among_at f all a in
      let y = among_at t all b in
      elim (cases_eq x.0 y.0) [
        | inl same ↦ inl (sym x.2 ∙ get_or_default all x.0 f t x.1 ∙ ap (λ i. get_or all i t) same
            ∙ y.2)
        | inr ne ↦ inr (before_other t f h
            (ne_eqb _ _ (λ e. apart_at all x.0 y.0 f apart ne x.1 y.1
            (ap (λ v. v.timer) x.2 ∙ e ∙ sym (ap (λ v. v.timer)
            (get_or_default all y.0 f t y.1 ∙ y.2))))))
      ]

  pub earliest_more : (xs : List Timer) (first : Option Timer) (t : Timer)
      → ((u : Timer) → Among u xs → Among u all) → Among t all → IsEarliest xs first
      → IsEarliest (xs ++ t ∷ []) (earlier_of first t)
  earliest_more xs None t within there h =
      subst (λ ys. IsEarliest (ys ++ t ∷ []) (Some t)) (sym h)
      (inl refl, λ u a. elim a [ inl e ↦ inl e | inr no_more ↦ absurd no_more ])
  earliest_more xs (Some f) t within there h = elim (cases_Bool (comes_before t f)) [
    | inl first ↦ subst (λ r. IsEarliest (xs ++ t ∷ []) r)
        (sym (cond-true (comes_before t f) (Some t) (Some f) first)) (
          right t xs,
          λ u a. elim (parts u xs a) [
            | inl b ↦ elim (h.1 u b) [
              | inl e ↦ inr (subst (λ v. comes_before t v ≡ true) e first)
              | inr
                  c ↦ inr (before_trans t f u first c)
            ]
            | inr e ↦ inl e
          ],
        )
    | inr other ↦ subst (λ r. IsEarliest (xs ++ t ∷ []) r)
        (sym (cond-false (comes_before t f) (Some t) (Some f) other)) (
          left f xs h.0,
          λ u a. elim (parts u xs a) [
            | inl b ↦ h.1 u b
            | inr e ↦ subst (λ v. (f ≡ v) ⊎ (comes_before f v ≡ true)) e
                (either f t (within f h.0) there other)
          ],
        )
  ]
    where
      right : (v : Timer) (ys : List Timer) → Among v (ys ++ v ∷ [])
      right v [] = inl refl
      right v (y ∷ ys) = inr (right v ys)

      left : (v : Timer) (ys : List Timer) → Among v ys → Among v (ys ++ t ∷ [])
      left v [] a = absurd a
      left v (y ∷ ys) (inl e) = inl e
      left v (y ∷ ys) (inr a) = inr (left v ys a)

      parts : (v : Timer) (ys : List Timer) → Among v (ys ++ t ∷ []) → Among v ys ⊎ (t ≡ v)
      parts v [] (inl e) = inr e
      parts v [] (inr a) = absurd a
      parts v (y ∷ ys) (inl e) = inl (inl e)
      parts v (y ∷ ys) (inr a) = elim (parts v ys a) [ inl b ↦ inl (inr b) | inr e ↦ inr e ]

pub earliest_first : (xs : List Timer) (first : Option Timer) → AreApart xs → IsEarliest xs first
    → first ≡ first_of (in_order xs)
earliest_first xs None apart h = ap (λ ys. first_of (in_order ys)) (sym h)
earliest_first xs (Some f) apart h =
    at (in_order xs) (members_in_order xs).there (members_in_order xs).back
    (schedule_in_order xs apart).rising
  where
    at : (ys : List Timer) → ((u : Timer) → Among u xs → Among u ys)
        → ((u : Timer) → Among u ys → Among u xs) → is_rising ys ≡ true → Some f ≡ first_of ys
    at [] there back rising = absurd (there f h.0)
    at (y ∷ ys) there back rising =
        elim (there f h.0) [
          | inl e ↦ ap Some (sym e)
          | inr a ↦ elim (h.1 y (back y (inl refl))) [
            | inl e ↦ ap Some e
            | inr before ↦ absurd (both_ways _ (before_not f y before)
                (all_at (λ u. comes_before y u) f ys
                (and_parts (list_all (λ u. comes_before y u) ys) (is_rising ys) rising).0 a))
          ]
        ]

-- if another timer leaves the first stays
pub first_of-without : (number : ℕ) (timers : List Timer)
    → ((f : Timer) → first_of timers ≡ Some f → f.timer ≢ number)
    → first_of (without_timer number timers) ≡ first_of timers
first_of-without number [] h = refl
first_of-without number (u ∷ rest) h =
    ap first_of (cond-true (not (u.timer == number)) (u ∷ without_timer number rest)
    (without_timer number rest) (ap not (ne_eqb _ _ (h u refl))))

-- ---- by the places

pub earliest_places_more : (places : List Place) (i : ℕ) (first : Option Timer) (d : Place)
    → AreApart (timers_of places) → i < length places → IsEarliest (timers_of (take i places)) first
    → IsEarliest (timers_of (take (i + 1) places)) (earlier_of first (get_or places i d).timer)
earliest_places_more places i first d apart l h =
    subst (λ ts. IsEarliest ts (earlier_of first (get_or places i d).timer))
    (sym (ap timers_of (take_more places i d l)
    ∙ map-append (λ (p : Place). p.timer) (take i places) (get_or places i d ∷ [])))
    (earliest_more (timers_of places) apart (timers_of (take i places)) first
    (get_or places i d).timer (λ u a. subst (λ ts. Among u ts)
    (sym (map-append (λ (p : Place). p.timer) (take i places) (drop i places))
    ∙ ap timers_of (take-append-drop i places))
    (among_left u (timers_of (take i places)) (timers_of (drop i places)) a))
    (among_places places i (get_or places i d) (slice_get-get_or places i d l)) h)

-- of one place its timer
pub earliest_head : (places : List Place) (p : Place) → slice_get places 0 ≡ Some p
    → IsEarliest (timers_of (take 1 places)) (Some p.timer)
earliest_head [] p is = absurd (none_some is)
  where
    none_some : ◌≡◌ {A = Option Place} None (Some p) → ⊥
    none_some e = cc
earliest_head (q ∷ rest) p is = subst (λ r. IsEarliest (q.timer ∷ []) r)
    (ap (option_map (λ (v : Place). v.timer)) is)
    (inl refl, λ u a. elim a [ inl e ↦ inl e | inr no_more ↦ absurd no_more ])

-- the earlier of two
pub later_first : (t f : Timer) → comes_before t f ≡ true → earlier_of (Some f) t ≡ Some t
later_first t f first = cond-true (comes_before t f) (Some t) (Some f) first

pub same_first : (t f : Timer) → comes_before t f ≡ false → earlier_of (Some f) t ≡ Some f
same_first t f other = cond-false (comes_before t f) (Some t) (Some f) other

-- ---- by the heads

heads_of-append : (places : List Place) (xs ys : List (Option ℕ))
    → heads_of places (xs ++ ys) ≡ heads_of places xs ++ heads_of places ys
heads_of-append places [] ys = refl
heads_of-append places (x ∷ xs) ys =
    ap (λ ts. head_timer places x ++ ts) (heads_of-append places xs ys)
    ∙ sym (append_assoc (head_timer places x) (heads_of places xs) (heads_of places ys))

heads_more : (places : List Place) (heads : List (Option ℕ)) (i : ℕ) → i < length heads
    → heads_of places (take (i + 1) heads)
    ≡ heads_of places (take i heads) ++ head_timer places (get_or heads i None)
heads_more places heads i l =
    ap (heads_of places) (take_more heads i None l)
    ∙ heads_of-append places (take i heads) (get_or heads i None ∷ [])
    ∙ ap (λ ts. heads_of places (take i heads) ++ ts)
    (append-nil (head_timer places (get_or heads i None)))

among_heads : (places : List Place) (heads : List (Option ℕ)) (s k : ℕ) (p : Place)
    → s < length heads → get_or heads s None ≡ Some k → slice_get places k ≡ Some p
    → Among p.timer (heads_of places heads)
among_heads places [] s k p l h e = absurd (omega arith)
among_heads places (x ∷ heads) zero k p l h e =
    subst (λ ts. Among p.timer (ts ++ heads_of places heads))
    (sym (ap (head_timer places) h ∙ ap place_timer e)) (inl refl)
among_heads places (x ∷ heads) (suc s) k p l h e =
    among_right p.timer (head_timer places x) (heads_of places heads)
    (among_heads places heads s k p (omega arith) h e)

heads_within : (places : List Place) (heads : List (Option ℕ)) (u : Timer)
    → Among u (heads_of places heads) → Among u (timers_of places)
heads_within places [] u a = absurd a
heads_within places (None ∷ heads) u a = heads_within places heads u a
heads_within places (Some k ∷ heads) u a =
    at (slice_get places k) refl (heads_within places heads u) a
  where
    at : (o : Option Place) → slice_get places k ≡ o
        → (Among u (heads_of places heads) → Among u (timers_of places))
        → Among u (place_timer o ++ heads_of places heads) → Among u (timers_of places)
    at None e rest a = rest a
    at (Some p) e rest (inl s) = subst (λ v. Among v (timers_of places)) s
        (among_places places k p e)
    at (Some p) e rest (inr a) = rest a

module _ (places : List Place) (heads : List (Option ℕ)) (apart : AreApart (timers_of places)) where
  within_taken : (i : ℕ) (u : Timer) → Among u (heads_of places (take i heads))
      → Among u (timers_of places)
  within_taken i u a = heads_within places (take i heads) u a

  -- one head more, with a place
  pub earliest_heads_more : (i k : ℕ) (first : Option Timer) (p : Place) → i < length heads
      → get_or heads i None ≡ Some k → slice_get places k ≡ Some p
      → IsEarliest (heads_of places (take i heads)) first
      → IsEarliest (heads_of places (take (i + 1) heads)) (earlier_of first p.timer)
  earliest_heads_more i k first p l h e was =
      subst (λ ts. IsEarliest ts (earlier_of first p.timer))
      (sym (heads_more places heads i l ∙ ap (λ ts. heads_of places (take i heads) ++ ts)
      (ap (head_timer places) h ∙ ap place_timer e)))
      (earliest_more (timers_of places) apart (heads_of places (take i heads)) first p.timer
      (within_taken i) (among_places places k p e) was)

  -- one head more, with none
  pub earliest_heads_none : (i : ℕ) (first : Option Timer) → i < length heads
      → head_timer places (get_or heads i None) ≡ []
      → IsEarliest (heads_of places (take i heads)) first
      → IsEarliest (heads_of places (take (i + 1) heads)) first
  earliest_heads_none i first l h was =
      subst (λ ts. IsEarliest ts first) (sym
      (heads_more places heads i l ∙ ap (λ ts. heads_of places (take i heads) ++ ts) h
      ∙ append-nil (heads_of places (take i heads)))) was

  pub earliest_heads_step : (i : ℕ) (first : Option Timer) → i < length heads
      → IsEarliest (heads_of places (take i heads)) first
      → IsEarliest (heads_of places (take (i + 1) heads))
      (earlier_at first (head_timer places (get_or heads i None)))
  earliest_heads_step i first l was = by_head (get_or heads i None) refl
    where
      by_place : (k : ℕ) → get_or heads i None ≡ Some k → (o : Option Place)
          → slice_get places k ≡ o → IsEarliest (heads_of places (take (i + 1) heads))
          (earlier_at first (place_timer o))
      by_place k h None e = earliest_heads_none i first l
          (ap (head_timer places) h ∙ ap place_timer e) was
      by_place k h (Some p) e = earliest_heads_more i k first p l h e was

      by_head : (h : Option ℕ) → get_or heads i None ≡ h
          → IsEarliest (heads_of places (take (i + 1) heads))
          (earlier_at first (head_timer places h))
      by_head None h = earliest_heads_none i first l (ap (head_timer places) h) was
      by_head (Some k) h = by_place k h (slice_get places k) refl

  -- before each timer stands the head of its spoke
  head_before : (resolution : ℕ) → 0 < length heads
      → AreChains (length heads) resolution heads places (in_order (timers_of places)) → (u : Timer)
      → Among u (timers_of places)
      → (v : Timer) × Among v (heads_of places heads) × ((v ≡ u) ⊎ (comes_before v u ≡ true))
  head_before resolution pos chains u a =
      let s = spoke_of (length heads) resolution u.deadline in
      let q : Timer → Bool = λ t. spoke_of (length heads) resolution t.deadline == s in
      let l : s < length heads = omega arith in
      let part : IsSchedule (filter q (in_order (timers_of places))) =
      schedule_filtered q (in_order (timers_of places))
      (schedule_in_order (timers_of places) apart) in
      at s l (filter q (in_order (timers_of places))) (chains s l) part.rising
      (among_filtered q u (in_order (timers_of places))
      ((members_in_order (timers_of places)).there u a) (eq-eqb _ _ refl))
    where
      at : (s : ℕ) → s < length heads → (ts : List Timer) → Follows places (get_or heads s None) ts
          → is_rising ts ≡ true → Among u ts → (v : Timer) × Among v (heads_of places heads)
          × ((v ≡ u) ⊎ (comes_before v u ≡ true))
      at s l [] f rising a = absurd a
      at s l (v ∷ rest) f rising a = (
        v,
        subst (λ w. Among w (heads_of places heads)) f.4
            (among_heads places heads s f.0 f.2 l f.1 f.3),
        elim a [
          | inl e ↦ inl e
          | inr b ↦ inr
              (all_at (λ w. comes_before v w) u rest
              (and_parts (list_all (λ w. comes_before v w) rest) (is_rising rest) rising).0 b)
        ],
      )

  pub earliest_by_heads : (resolution : ℕ) (first : Option Timer) → 0 < length heads
      → AreChains (length heads) resolution heads places (in_order (timers_of places))
      → IsEarliest (heads_of places heads) first → IsEarliest (timers_of places) first
  earliest_by_heads resolution None pos chains h = none (timers_of places) refl
    where
      none : (ts : List Timer) → timers_of places ≡ ts → timers_of places ≡ []
      none [] e = e
      none (t ∷ ts) e =
          let b = head_before resolution pos chains t (subst (λ xs. Among t xs) (sym e) (inl refl))
          in
          absurd (subst (λ xs. Among b.0 xs) h b.1)
  earliest_by_heads resolution (Some f) pos chains h = (
    heads_within places heads f h.0,
    λ u a.
        let b = head_before resolution pos chains u a in
        elim (h.1 b.0 b.1) [
          | inl e ↦ subst (λ w. (w ≡ u) ⊎ (comes_before w u ≡ true)) (sym e) b.2
          | inr c ↦ elim b.2 [
            | inl e ↦ inr (subst (λ w. comes_before f w ≡ true) e c)
            | inr d ↦ inr
                (before_trans f b.0 u c d)
          ]
        ],
  )

-- ---- what a wheel keeps

pub wheel_added : (spokes resolution : ℕ) (heads new_heads : List (Option ℕ))
    (places new : List Place) (first : Option Timer) (t : Timer)
    → IsWheel spokes resolution heads places first
    → is_scheduled t.timer (in_order (timers_of places)) ≡ false
    → timers_of new ≡ timers_of places ++ t ∷ [] → length new_heads ≡ length heads
    → AreChains (length new_heads) resolution new_heads new
    (with_timer t (in_order (timers_of places)))
    → (in_order (timers_of new) ≡ with_timer t (in_order (timers_of places)))
    × IsWheel spokes resolution new_heads new (earlier_of first t)
wheel_added spokes resolution heads new_heads places new first t wheel fresh timers n chains =
    let apart : AreApart (timers_of places ++ t ∷ []) =
    apart_push t (timers_of places) wheel.apart fresh in
    let order : in_order (timers_of new) ≡ with_timer t (in_order (timers_of places)) =
    ap in_order timers ∙ in_order-added t (timers_of places) (timers_of places ++ t ∷ [])
    wheel.apart fresh (permutation_pushed t (timers_of places) (timers_of places ++ t ∷ [])
    (IsPermutation-refl (timers_of places ++ t ∷ []))) in (
      order,
      record {
        some_spokes = wheel.some_spokes;
        ticks = wheel.ticks;
        each_spoke = n ∙ wheel.each_spoke;
        apart = subst AreApart (sym timers) apart;
        chains = subst (λ ts. AreChains spokes resolution new_heads new ts) (sym order)
            (subst (λ m. AreChains m resolution new_heads new
            (with_timer t (in_order (timers_of places)))) (n ∙ wheel.each_spoke) chains);
        earliest = ap (λ f. earlier_of f t) wheel.earliest
            ∙ sym (first_of-with t (in_order (timers_of places))) ∙ ap first_of (sym order);
      },
    )

module _ (spokes resolution : ℕ) (heads new_heads : List (Option ℕ)) (places new : List Place)
    (first : Option Timer) (t : Timer) (wheel : IsWheel spokes resolution heads places first)
    (p : IsPermutation (timers_of places) (t ∷ timers_of new)) where
  pub order_removed : in_order (timers_of new) ≡ without_timer t.timer (in_order (timers_of places))
  order_removed = in_order-removed t (timers_of places) (timers_of new) wheel.apart p

  pub chains_removed_in_order : AreChains (length new_heads) resolution new_heads new
      (without_timer t.timer (in_order (timers_of places)))
      → AreChains (length new_heads) resolution new_heads new (in_order (timers_of new))
  chains_removed_in_order chains = subst
      (λ ts. AreChains (length new_heads) resolution new_heads new ts) (sym order_removed) chains

  pub wheel_removed : (now : Option Timer) → length new_heads ≡ length heads
      → AreChains (length new_heads) resolution new_heads new
      (without_timer t.timer (in_order (timers_of places)))
      → now ≡ first_of (in_order (timers_of new)) → IsWheel spokes resolution new_heads new now
  wheel_removed now n chains e = record {
    some_spokes = wheel.some_spokes;
    ticks = wheel.ticks;
    each_spoke = n ∙ wheel.each_spoke;
    apart = apart_removed t (timers_of places) (timers_of new) wheel.apart p;
    chains = subst (λ m. AreChains m resolution new_heads new (in_order (timers_of new)))
        (n ∙ wheel.each_spoke) (chains_removed_in_order chains);
    earliest = e;
  }

  -- if another timer was the first
  pub first_stays : ((f : Timer) → first ≡ Some f → f.timer ≢ t.timer)
      → first ≡ first_of (in_order (timers_of new))
  first_stays other =
      wheel.earliest ∙ sym (first_of-without t.timer (in_order (timers_of places))
      (λ f e. other f (wheel.earliest ∙ e))) ∙ ap first_of (sym order_removed)

-- the first of the list, and what is left without it
pub first_taken : (t : Timer) (timers : List Timer) → IsSchedule timers → first_of timers ≡ Some t
    → timers ≡ t ∷ without_timer t.timer timers
first_taken t [] h e = absurd (cc)
first_taken t (u ∷ rest) h e =
    let same : u ≡ t = is_it e in
    let none : is_scheduled u.timer rest ≡ false =
    not-true _ (and_parts (not (is_scheduled u.timer rest)) (names_once rest) h.once).0 in
    let left : without_timer u.timer (u ∷ rest) ≡ rest =
    cond-false (not (u.timer == u.timer)) (u ∷ without_timer u.timer rest)
    (without_timer u.timer rest) (ap not (eq-eqb u.timer u.timer refl))
    ∙ without_timer-fresh u.timer rest none in
    ap (λ v. v ∷ rest) same ∙ ap (λ xs. t ∷ xs) (sym left)
    ∙ ap (λ v. t ∷ without_timer v.timer (u ∷ rest)) same
  where
    is_it : Some u ≡ Some t → u ≡ t
    is_it h = cc

pub first_among : (t : Timer) (timers : List Timer) → first_of timers ≡ Some t → Among t timers
first_among t [] e = absurd (cc)
first_among t (u ∷ rest) e = inl (is_it e)
  where
    is_it : Some u ≡ Some t → u ≡ t
    is_it h = cc

pub deadline_of : (timers : List Timer)
    → option_map (λ t. t.deadline) (first_of timers) ≡ first_deadline timers
deadline_of [] = refl
deadline_of (t ∷ rest) = refl

pub none_reached : (now : ℕ) (t : Timer) (timers : List Timer) → is_rising timers ≡ true
    → first_of timers ≡ Some t → now < t.deadline → All (λ u. now < u.deadline) timers
none_reached now t [] rising e l = absurd (cc)
none_reached now t (u ∷ rest) rising e l =
    none_due now (u ∷ rest) rising (λ d. subst (λ v. now < v.deadline) (sym (is_it e)) l)
  where
    is_it : Some u ≡ Some t → u ≡ t
    is_it h = cc

pub behind : (first : Option Timer) (t f : Timer) → is_behind first t ≡ true → first ≡ Some f
    → f.timer ≢ t.timer
behind first t f h e same =
    both_ways (f.timer == t.timer) (not-true _ (ap (λ o. is_behind o t) (sym e) ∙ h))
    (eq-eqb _ _ same)

pub all_timers : (q : Timer → Bool) (places : List Place)
    → ((k : ℕ) (d : Place) → k < length places → q (get_or places k d).timer ≡ true)
    → All (λ t. q t ≡ true) (timers_of places)
all_timers q places h = All-map (λ t. q t ≡ true) (λ p. p.timer) places h

pub fewer_places : (t : Timer) (places new : List Place) → AreApart (timers_of places)
    → IsPermutation (timers_of places) (t ∷ timers_of new) → length new + 1 ≡ length places
fewer_places t places new apart p =
    omega (
      arith,
      length_removed t (timers_of places) (timers_of new) apart p,
      length-map places (λ (q : Place). q.timer),
      length-map new (λ (q : Place). q.timer),
    )

pub length-timers : (places : List Place) → length (in_order (timers_of places)) ≡ length places
length-timers places = omega (
  arith,
  length-in_order (timers_of places),
  length-map places (λ (q : Place). q.timer),
)
