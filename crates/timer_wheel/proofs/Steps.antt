-- What each step of the code knows of the places and the list.
use Rattle.std.proofs.Common.{ℕ, ◌≡◌, ◌≢◌, ◌+◌, ◌-◌, ◌<◌, ◌≤◌, ◌==◌, Bool, true, false, not, cond}
use Rattle.std.proofs.Common.{List, [], ◌∷◌, ◌++◌, length, get_or, take, refl, sym, ap, ◌∙◌, subst}
use Rattle.std.proofs.Common.{arith, ◌⊎◌, inl, inr, Option, Some, None}
use Rattle.std.proofs.lemmas.Bool.{cases_eq, both_ways, eq-eqb, ne_eqb, not-true}
use Rattle.std.proofs.lemmas.List.{length-map, get_or-map, length-set, take_more, take_all}
use Rattle.std.proofs.lemmas.List.Sorted.{IsPermutation-map, IsPermutation-to_front}
use Rattle.std.proofs.lemmas.List.Sorted.{IsPermutation-swap_remove, length_permutation}
use Rattle.std.proofs.lemmas.Option.{slice_get-get_or, slice_get_within, get_or_from_slice_get}
use Rattle.std.specs.List.{slice_get, filter, swap_remove}
use Rattle.std.specs.List.Sorted.{IsPermutation}
use Rattle.timer_queue.specs.declared.timer.Timer.{Timer}
use Rattle.timer_queue.specs.Timers.{is_rising, is_scheduled, names_once, without_timer, in_order}
use Rattle.timer_queue.specs.Timers.{AreApart, IsSchedule}
use Rattle.timer_queue.proofs.Schedules.{schedule_filtered}
use Rattle.timer_queue.proofs.Members.{Among, among_at, among_from, among_filter, among_filtered}
use Rattle.timer_queue.proofs.Members.{members_in_order, is_scheduled-same, permutation_in_order}
use Rattle.timer_wheel.specs.declared.place.Place.{Place}
use Rattle.timer_wheel.specs.Spokes.{spoke_of, of_spoke, timers_of, Follows}
use Rattle.timer_wheel.specs.Chains.{IsGap, linked_heads, linked_places, AreChains, HasAllBut}
use Rattle.timer_wheel.proofs.Walks.{gap_holds}
use Rattle.timer_wheel.proofs.Links.{Relinked, relinked, once_front, one_part}
use Rattle.timer_wheel.proofs.Changes.{timers-linked, moved_there, stays_there, chains_moved}
use Rattle.timer_wheel.proofs.Changes.{chains_cut}

pub length-filter_le : (q : Timer → Bool) (xs : List Timer) → length (filter q xs) ≤ length xs
length-filter_le q [] = omega arith
length-filter_le q (x ∷ xs) = step (q x) (length-filter_le q xs)
  where
    step : (b : Bool) → length (filter q xs) ≤ length xs
        → length (cond b (x ∷ filter q xs) (filter q xs)) ≤ length (x ∷ xs)
    step true h = omega arith
    step false h = omega arith

-- a chain is no longer than the places
pub short_chain : (spokes resolution s : ℕ) (places : List Place)
    → length (of_spoke spokes resolution s (in_order (timers_of places))) ≤ length places
short_chain spokes resolution s places =
    omega (
      arith,
      length-filter_le (λ t. spoke_of spokes resolution t.deadline == s)
          (in_order (timers_of places)),
      length_permutation (timers_of places)
          (in_order (timers_of places)) (permutation_in_order (timers_of places)),
      length-map places (λ p. p.timer),
    )

pub short_part : (spokes resolution s : ℕ) (timers : List Timer) (n : ℕ) → length timers ≤ n
    → length (of_spoke spokes resolution s timers) ≤ n
short_part spokes resolution s timers n few =
    omega (arith, length-filter_le (λ t. spoke_of spokes resolution t.deadline == s) timers)

pub length-linked_heads : (heads : List (Option ℕ)) (s : ℕ) (last to : Option ℕ)
    → length (linked_heads heads s last to) ≡ length heads
length-linked_heads heads s None to = length-set heads s to
length-linked_heads heads s (Some q) to = refl

pub chains_same : (spokes more resolution : ℕ) (heads new_heads : List (Option ℕ))
    (places new : List Place) (timers : List Timer) → more ≡ spokes → new_heads ≡ heads
    → new ≡ places → AreChains spokes resolution heads places timers
    → AreChains more resolution new_heads new timers
chains_same spokes more resolution heads new_heads places new timers n h p chains =
    subst (λ m. AreChains m resolution new_heads new timers) (sym n)
    (subst (λ hs. AreChains spokes resolution hs new timers) (sym h)
    (subst (λ ps. AreChains spokes resolution heads ps timers) (sym p) chains))

pub unscheduled : (number : ℕ) (xs : List Timer) → is_scheduled number xs ≡ false
    → is_scheduled number (in_order xs) ≡ false
unscheduled number xs h = sym (is_scheduled-same number xs (in_order xs) (members_in_order xs)) ∙ h

-- ---- places by their timers

timer_at : (places : List Place) (k : ℕ) (p : Place) (d : Timer) → slice_get places k ≡ Some p
    → get_or (timers_of places) k d ≡ p.timer
timer_at places k p d e = get_or-map (λ q. q.timer) places k p d (slice_get_within places k p e)
    ∙ ap (λ q. q.timer) (get_or_from_slice_get places k p p e)

-- two places have different timers
pub one_place : (places : List Place) (i j : ℕ) (p q : Place) → AreApart (timers_of places)
    → slice_get places i ≡ Some p → slice_get places j ≡ Some q → p.timer.timer ≡ q.timer.timer
    → i ≡ j
one_place places i j p q apart a b e = elim (cases_eq i j) [
  | inl same ↦ same
  | inr ne ↦ absurd (elim (order i j ne) [
    | inl less ↦ apart i j p.timer less
        (omega (arith, length-map places (λ r. r.timer), slice_get_within places j q b))
        (ap (λ t. t.timer) (timer_at places i p p.timer a) ∙ e
        ∙ sym (ap (λ t. t.timer) (timer_at places j q p.timer b)))
    | inr more ↦ apart j i p.timer more
        (omega (arith, length-map places (λ r. r.timer), slice_get_within places i p a))
        (ap (λ t. t.timer) (timer_at places j q p.timer b) ∙ sym e
        ∙ sym (ap (λ t. t.timer) (timer_at places i p p.timer a)))
  ])
]
  where
    order : (m n : ℕ) → m ≢ n → (m < n) ⊎ (n < m)
    order m n ne = grind arith

pub among_places : (places : List Place) (k : ℕ) (p : Place) → slice_get places k ≡ Some p
    → Among p.timer (timers_of places)
among_places places k p e =
    among_from p.timer (timers_of places) (
      k,
      omega (arith, length-map places (λ r. r.timer), slice_get_within places k p e),
      timer_at places k p p.timer e,
    )

-- a change of `next` keeps the timers
pub linked_before : (places : List Place) (last to : Option ℕ) (k : ℕ) (q : Place)
    → slice_get (linked_places places last to) k ≡ Some q → (p : Place)
    × (slice_get places k ≡ Some p) × (p.timer ≡ q.timer)
linked_before places last to k q e =
    let l : k < length (linked_places places last to) =
    slice_get_within (linked_places places last to) k q e in
    let n : length (linked_places places last to) ≡ length places =
    sym (length-map (linked_places places last to) (λ r. r.timer))
    ∙ ap length (timers-linked places last to) ∙ length-map places (λ r. r.timer) in
    let p : Place = get_or places k q in
    let there : slice_get places k ≡ Some p = slice_get-get_or places k q (omega arith) in (
      p,
      there,
      sym (timer_at places k p q.timer there)
          ∙ ap (λ ts. get_or ts k q.timer) (sym (timers-linked places last to))
          ∙ timer_at (linked_places places last to) k q q.timer e,
    )

pub length-linked : (places : List Place) (last to : Option ℕ)
    → length (linked_places places last to) ≡ length places
length-linked places last to = sym (length-map (linked_places places last to) (λ r. r.timer))
    ∙ ap length (timers-linked places last to) ∙ length-map places (λ r. r.timer)

-- ---- the place of a timer in its chain

-- the gap of a timer of the chain ends at its place
pub gap_place : (places : List Place) (head : Option ℕ) (t : Timer) (timers : List Timer)
    (last at : Option ℕ) → IsGap places head t timers last at → is_rising timers ≡ true
    → Among t timers
    → (k : ℕ) × (at ≡ Some k) × (p : Place) × (slice_get places k ≡ Some p) × (p.timer ≡ t)
gap_place places head t timers last at gap rising there =
    let held = gap_holds places head t timers last at gap rising there in
    let f : Follows places at (t ∷ held.0) =
    subst (λ b. Follows places at b) held.1 gap.way.follows in
    (f.0, f.1, f.2, f.3, f.4)

-- ---- the last place in a hole

module _ (spokes resolution : ℕ) (heads : List (Option ℕ)) (places : List Place) (hole : ℕ)
    (timers : List Timer) (sched : IsSchedule timers) (all : HasAllBut hole places timers)
    (chains : AreChains spokes resolution heads places timers) where
  pub chains_popped : (new : List Place) → new ≡ take (length places - 1) places
      → hole ≡ length places - 1 → AreChains spokes resolution heads new timers
  chains_popped new is last = chains_cut spokes resolution heads places new timers is
      (λ p e a. all.lacks p (ap (slice_get places) last ∙ e) (among_at p.timer timers a)) chains

  pub chains_filled : (new : List Place) (s : ℕ) (last at : Option ℕ) (p d : Place)
      → AreApart (timers_of places) → slice_get places (length places - 1) ≡ Some p
      → hole < length places - 1 → s ≡ spoke_of spokes resolution p.timer.deadline
      → s < length heads
      → IsGap places (get_or heads s None) p.timer (of_spoke spokes resolution s timers) last at
      → new ≡ swap_remove (linked_places places last (Some hole)) hole d
      → AreChains spokes resolution (linked_heads heads s last (Some hole)) new timers
  chains_filled new s last at p d apart last_is below is l gap new_is =
      chains_moved spokes resolution heads places new timers s last (length places - 1) hole p sched
      there is l here last_is chains new_there kept
    where
      mid : List Place
      mid = linked_places places last (Some hole)

      n : length mid ≡ length places
      n = length-linked places last (Some hole)

      q : Timer → Bool
      q = λ t. spoke_of spokes resolution t.deadline == s

      there : Among p.timer timers
      there = among_from p.timer timers (all.others (length places - 1) p
          (λ e. absurd (omega arith)) last_is)

      part : IsSchedule (of_spoke spokes resolution s timers)
      part = schedule_filtered q timers sched

      member : Among p.timer (of_spoke spokes resolution s timers)
      member = among_filtered q p.timer timers there (eq-eqb _ _ (sym is))

      here : IsGap places (get_or heads s None) p.timer (of_spoke spokes resolution s timers) last
          (Some (length places - 1))
      here =
          let g = gap_place places (get_or heads s None) p.timer
          (of_spoke spokes resolution s timers) last at gap part.rising member in
          subst (λ a. IsGap places (get_or heads s None) p.timer
          (of_spoke spokes resolution s timers) last a)
          (g.1 ∙ ap Some (one_place places g.0 (length places - 1) g.2 p apart g.3 last_is
          (ap (λ t. t.timer) g.4))) gap

      held : (rest : List Timer) × (here.way.back ≡ p.timer ∷ rest)
      held = gap_holds places (get_or heads s None) p.timer (of_spoke spokes resolution s timers)
          last (Some (length places - 1)) here part.rising member

      once : names_once (here.way.front ++ p.timer ∷ held.0) ≡ true
      once = ap names_once (sym (here.way.whole ∙ ap (λ b. here.way.front ++ b) held.1)) ∙ part.once

      r : Relinked places mid (get_or (linked_heads heads s last (Some hole)) s None) here.way.front
          (Some hole)
      r = relinked places heads s here.way.front last (Some hole) l
          (once_front here.way.front (p.timer ∷ held.0) once) here.way.is_last

      mid_last : slice_get mid (length mid - 1) ≡ Some p
      mid_last = ap (λ m. slice_get mid (m - 1)) n
          ∙ r.others (length places - 1) p last_is
          (λ f. one_part here.way.front (p.timer ∷ held.0) p.timer once f (inl refl))

      new_there : slice_get new hole ≡ Some p
      new_there = ap (λ ps. slice_get ps hole) new_is ∙ moved_there mid hole d (omega (arith, n))
          ∙ mid_last

      kept : (k : ℕ) (x : Place) → slice_get mid k ≡ Some x → Among x.timer timers
          → (x.timer ≡ p.timer → ⊥) → slice_get new k ≡ Some x
      kept k x e a ne =
          let b = linked_before places last (Some hole) k x e in
          let not_hole : k ≢ hole = λ same. all.lacks b.0 (ap (slice_get places) (sym same) ∙ b.1)
          (among_at b.0.timer timers (subst (λ u. Among u timers) (sym b.2) a)) in
          let not_last : k ≢ length mid - 1 =
          λ same. ne (same_place x p (ap (slice_get mid) (sym same) ∙ e) mid_last) in
          let within : k < length mid = slice_get_within mid k x e in
          ap (λ ps. slice_get ps k) new_is ∙ stays_there mid hole k d not_hole (omega arith) ∙ e
        where
          same_place : (y z : Place) → slice_get mid (length mid - 1) ≡ Some y
              → slice_get mid (length mid - 1) ≡ Some z → y.timer ≡ z.timer
          same_place y z g h = let w : y ≡ z = cc in ap (λ v. v.timer) w

pub permutation_popped : (places new : List Place) (p : Place)
    → new ≡ take (length places - 1) places → slice_get places (length places - 1) ≡ Some p
    → IsPermutation (timers_of places) (p.timer ∷ timers_of new)
permutation_popped places new p is e =
    let l : length places - 1 < length places = slice_get_within places (length places - 1) p e in
    let n : length places - 1 + 1 ≡ length places = omega arith in
    let last : get_or places (length places - 1) p ≡ p =
    get_or_from_slice_get places (length places - 1) p p e in
    let whole : places ≡ new ++ p ∷ [] =
    sym (take_all (length places - 1 + 1) places (omega arith))
    ∙ take_more places (length places - 1) p l
    ∙ ap (λ ps. ps ++ get_or places (length places - 1) p ∷ []) (sym is)
    ∙ ap (λ x. new ++ x ∷ []) last in
    subst (λ ps. IsPermutation (timers_of ps) (p.timer ∷ timers_of new)) (sym whole)
    (IsPermutation-map (λ r. r.timer) (new ++ p ∷ []) (p ∷ new) (IsPermutation-to_front new p))

pub permutation_filled : (places new : List Place) (last to : Option ℕ) (hole : ℕ) (p x : Place)
    → x ≡ get_or (linked_places places last to) hole x
    → new ≡ swap_remove (linked_places places last to) hole x → slice_get places hole ≡ Some p
    → IsPermutation (timers_of places) (p.timer ∷ timers_of new)
permutation_filled places new last to hole p x read is e =
    let mid : List Place = linked_places places last to in
    let l : hole < length mid = omega (
      arith,
      length-linked places last to,
      slice_get_within places hole p e,
    ) in
    let at : slice_get mid hole ≡ Some x = slice_get-get_or mid hole x l ∙ ap Some (sym read) in
    let b = linked_before places last to hole x at in
    let same : b.0 ≡ p = same_place b.0 p b.1 e in
    let timer : x.timer ≡ p.timer = sym b.2 ∙ ap (λ r. r.timer) same in
    subst (λ ts. IsPermutation ts (p.timer ∷ timers_of new)) (timers-linked places last to)
    (subst (λ t. IsPermutation (timers_of mid) (t ∷ timers_of new)) timer
    (subst (λ ps. IsPermutation (timers_of mid) (x.timer ∷ timers_of ps)) (sym is)
    (IsPermutation-map (λ r. r.timer) mid (x ∷ swap_remove mid hole x)
    (IsPermutation-swap_remove mid hole x l read))))
  where
    same_place : (y z : Place) → slice_get places hole ≡ Some y → slice_get places hole ≡ Some z
        → y ≡ z
    same_place y z g h = cc

-- ---- a timer out of its chain

pub all_but : (places : List Place) (last to : Option ℕ) (place : ℕ) (p : Place) (t : Timer)
    → AreApart (timers_of places) → slice_get places place ≡ Some p → p.timer ≡ t
    → HasAllBut place (linked_places places last to)
    (without_timer t.timer (in_order (timers_of places)))
all_but places last to place p t apart e is =
    let other : Timer → Bool = λ u. not (u.timer == t.timer) in
    record {
      others = λ k x ne at.
          let b = linked_before places last to k x at in
          among_at x.timer (without_timer t.timer (in_order (timers_of places)))
          (among_filtered other x.timer (in_order (timers_of places))
          ((members_in_order (timers_of places)).there x.timer
          (subst (λ u. Among u (timers_of places)) b.2 (among_places places k b.0 b.1)))
          (ap not (ne_eqb _ _ (λ same. ne (one_place places k place b.0 p apart b.1 e
          (ap (λ u. u.timer) b.2 ∙ same ∙ ap (λ u. u.timer) (sym is)))))));
      lacks = λ x at has.
          let b = linked_before places last to place x at in
          let y : b.0 ≡ p = same_place b.0 p b.1 e in
          let f = among_filter other x.timer (in_order (timers_of places))
          (among_from x.timer (without_timer t.timer (in_order (timers_of places))) has) in
          both_ways _ (not-true _ f.1) (eq-eqb _ _
          (ap (λ u. u.timer) (sym b.2 ∙ ap (λ r. r.timer) y ∙ is)));
    }
  where
    same_place : (y z : Place) → slice_get places place ≡ Some y → slice_get places place ≡ Some z
        → y ≡ z
    same_place y z g h = cc

pub same_place : (k j : ℕ) (at : Option ℕ) → at ≡ Some k → at ≡ Some j → k ≡ j
same_place k j at a b = cc

pub never_ends : (k : ℕ) (at : Option ℕ) → at ≡ Some k → at ≡ None → ⊥
never_ends k at a b = cc

pub short_rest : (number : ℕ) (places new : List Place) → length new ≡ length places
    → length (without_timer number (in_order (timers_of places))) ≤ length new
short_rest number places new n =
    omega (
      arith,
      length-filter_le (λ u. not (u.timer == number)) (in_order (timers_of places)),
      length_permutation (timers_of places) (in_order (timers_of places))
          (permutation_in_order (timers_of places)),
      length-map places (λ p. p.timer),
    )
