-- The first of the timers, sought tick by tick.
use Rattle.std.proofs.Common.{ℕ, ◌≡◌, ◌≢◌, ◌+◌, ◌-◌, ◌<◌, ◌≤◌, ◌/◌, ◌%◌, ◌==◌, Bool, true, false}
use Rattle.std.proofs.Common.{List, [], ◌∷◌, length, get_or, refl, sym, ap, ◌∙◌, subst, arith, ◌⊎◌}
use Rattle.std.proofs.Common.{inl, inr, Option, Some, None, not, Contains}
use Rattle.std.proofs.lemmas.Bool.{and_parts, cond-true, cond-false, eq-eqb, eqb-true, cases_Bool}
use Rattle.std.proofs.lemmas.Bool.{cases_eq}
use Rattle.std.proofs.lemmas.Bool.Decides.{nat_tests}
use Rattle.std.proofs.lemmas.Nat.{le-div}
use Rattle.std.proofs.Math.Nat.{div-mul-le_self, mod-add-mod}
use Rattle.std.proofs.lemmas.List.{get_or_default}
use Rattle.std.specs.List.Sorted.{IsPermutation}
use Rattle.std.specs.List.{All, list_all, filter, slice_get}
use Rattle.std.specs.Option.{is_some}
use Rattle.timer_queue.specs.declared.timer.Timer.{Timer}
use Rattle.timer_queue.specs.Timers.{comes_before, is_rising, in_order, AreApart, IsSchedule}
use Rattle.timer_queue.proofs.Schedules.{schedule_filtered}
use Rattle.timer_queue.proofs.Members.{Among, all_at, among_at, among_from, among_filtered}
use Rattle.timer_queue.proofs.Members.{members_in_order, members_permutation, schedule_in_order}
use Rattle.timer_queue.proofs.Swaps.{apart_at}
use Rattle.timer_wheel.specs.declared.place.Place.{Place}
use Rattle.timer_wheel.specs.Spokes.{spoke_of, timers_of, Follows}
use Rattle.timer_wheel.specs.Chains.{AreChains, IsWheel, is_behind, first_of, place_timer}
use Rattle.timer_wheel.specs.Chains.{head_timer, in_tick}
use Rattle.timer_wheel.proofs.Firsts.{earliest_first, first_among}
use Rattle.timer_wheel.proofs.Steps.{among_places}

-- an earlier moment is of no later tick
pub tick_rises : (a b r : ℕ) → 0 < r → a ≤ b → a / r ≤ b / r
tick_rises a b r pos h = le-div (a / r) b r pos (omega (arith, div-mul-le_self a r, h))

pub not_later : (a b : Timer) → comes_before a b ≡ true → a.deadline ≤ b.deadline
not_later a b h = grind (arith, nat_tests)

earlier_deadline : (a b : Timer) → a.deadline < b.deadline → comes_before a b ≡ true
earlier_deadline a b h = grind (arith, nat_tests)

module _ (heads : List (Option ℕ)) (places : List Place) (resolution : ℕ) (ticks : 0 < resolution)
    (apart : AreApart (timers_of places))
    (chains : AreChains (length heads) resolution heads places (in_order (timers_of places))) where
  -- what stands at the head of a timer's spoke
  head_of : (s : ℕ) → s < length heads → (u : Timer) → Among u (timers_of places)
      → spoke_of (length heads) resolution u.deadline ≡ s
      → (v : Timer) × (head_timer places (get_or heads s None) ≡ v ∷ [])
      × Among v (timers_of places) × ((v ≡ u) ⊎ (comes_before v u ≡ true))
  head_of s l u a is =
      let q : Timer → Bool = λ t. spoke_of (length heads) resolution t.deadline == s in
      let part : IsSchedule (filter q (in_order (timers_of places))) =
      schedule_filtered q (in_order (timers_of places))
      (schedule_in_order (timers_of places) apart) in
      at (filter q (in_order (timers_of places))) (chains s l) part.rising
      (among_filtered q u (in_order (timers_of places))
      ((members_in_order (timers_of places)).there u a) (eq-eqb _ _ is))
    where
      at : (ts : List Timer) → Follows places (get_or heads s None) ts → is_rising ts ≡ true
          → Among u ts → (v : Timer) × (head_timer places (get_or heads s None) ≡ v ∷ [])
          × Among v (timers_of places) × ((v ≡ u) ⊎ (comes_before v u ≡ true))
      at [] f rising a = absurd a
      at (v ∷ rest) f rising a = (
        v,
        ap (head_timer places) f.1 ∙ ap place_timer f.3 ∙ ap (λ w. w ∷ []) f.4,
        subst (λ w. Among w (timers_of places)) f.4 (among_places places f.0 f.2 f.3),
        elim a [
          | inl e ↦ inl e
          | inr b ↦ inr
              (all_at (λ w. comes_before v w) u rest
              (and_parts (list_all (λ w. comes_before v w) rest) (is_rising rest) rising).0 b)
        ],
      )

  -- the timer at a head is one of the timers
  head_among : (h : Option ℕ) (t : Timer) (ts : List Timer) → head_timer places h ≡ ts → Among t ts
      → Among t (timers_of places)
  head_among None t ts e a = absurd (subst (λ xs. Among t xs) (sym e) a)
  head_among (Some k) t ts e a = at (slice_get places k) refl (subst (λ xs. Among t xs) (sym e) a)
    where
      at : (o : Option Place) → slice_get places k ≡ o → Among t (place_timer o)
          → Among t (timers_of places)
      at None e a = absurd a
      at (Some p) e (inl s) = subst (λ v. Among v (timers_of places)) s (among_places places k p e)
      at (Some p) e (inr b) = absurd b

  module _ (tick turn s : ℕ) (l : s < length heads) (is : s ≡ (tick + turn) % length heads)
      (later : (u : Timer) → Among u (timers_of places) → tick + turn ≤ u.deadline / resolution)
    where
      -- if one has this tick the head of the spoke has it
      head_has : (u : Timer) → Among u (timers_of places) → u.deadline / resolution ≡ tick + turn
          → (v : Timer) × (head_timer places (get_or heads s None) ≡ v ∷ [])
          × ((v ≡ u) ⊎ (comes_before v u ≡ true)) × (v.deadline / resolution ≡ tick + turn)
      head_has u a e =
          let h = head_of s l u a (ap (λ n. n % length heads) e ∙ sym is) in
          let no_later : h.0.deadline ≤ u.deadline =
          elim h.3 [
            | inl same ↦ omega (arith, ap (λ w. w.deadline) same)
            | inr b ↦ not_later h.0 u
                b
          ] in
          let low : tick + turn ≤ h.0.deadline / resolution = later h.0 h.2 in
          let high : h.0.deadline / resolution ≤ u.deadline / resolution =
          tick_rises h.0.deadline u.deadline resolution ticks no_later in
          (h.0, h.1, h.3, omega (arith, low, high, e))

      next_tick : in_tick resolution tick turn (head_timer places (get_or heads s None)) ≡ None
          → (u : Timer) → Among u (timers_of places) → tick + (turn + 1) ≤ u.deadline / resolution
      next_tick none u a =
          elim (cases_eq (u.deadline / resolution) (tick + turn)) [
            | inl e ↦
                let h = head_has u a e in
                absurd (some_none h.0 (sym (cond-true (h.0.deadline / resolution - tick == turn)
                (Some h.0) None (eq-eqb _ _ (omega (arith, h.3))))
                ∙ ap (in_tick resolution tick turn) (sym h.1) ∙ none))
            | inr ne ↦ omega (arith, ne, later u a)
          ]
        where
          some_none : (v : Timer) → Some v ≡ None → ⊥
          some_none v e = cc

      found_tick : (t : Timer) → in_tick resolution tick turn
          (head_timer places (get_or heads s None)) ≡ Some t
          → Some t ≡ first_of (in_order (timers_of places))
      found_tick t found = at (head_timer places (get_or heads s None)) refl found
        where
          at : (ts : List Timer) → head_timer places (get_or heads s None) ≡ ts
              → in_tick resolution tick turn ts ≡ Some t
              → Some t ≡ first_of (in_order (timers_of places))
          at [] e none = absurd (cc)
          at (v ∷ rest) e some = elim (cases_Bool (v.deadline / resolution - tick == turn)) [
            | inr other ↦ absurd (never (sym (cond-false (v.deadline / resolution - tick == turn)
                (Some v) None other) ∙ some))
            | inl has ↦
                let same : v ≡ t = is_it (sym (cond-true (v.deadline / resolution - tick == turn)
                (Some v) None has) ∙ some) in
                let there : Among v (timers_of places) =
                head_among (get_or heads s None) v (v ∷ rest) e (inl refl) in
                let tick_is : v.deadline / resolution ≡ tick + turn =
                omega (arith, eqb-true _ _ has, later v there) in
                ap Some (sym same) ∙ earliest_first (timers_of places) (Some v) apart (
                  there,
                  λ u a. elim (cases_eq (u.deadline / resolution) (tick + turn)) [
                    | inl e' ↦
                        let h = head_has u a e' in
                        let w : h.0 ≡ v = same_head h.0 v rest (sym h.1 ∙ e) in
                        subst (λ x. (x ≡ u) ⊎ (comes_before x u ≡ true)) w h.2
                    | inr ne ↦ inr (earlier_deadline v u
                        (by_tick v u (omega (arith, tick_is, ne, later u a))))
                  ],
                )
          ]
            where
              never : None ≡ Some t → ⊥
              never e = cc

              is_it : Some v ≡ Some t → v ≡ t
              is_it e = cc

              same_head : (x y : Timer) (ys : List Timer) → x ∷ [] ≡ y ∷ ys → x ≡ y
              same_head x y ys e = cc

              by_tick : (x y : Timer) → x.deadline / resolution < y.deadline / resolution
                  → x.deadline < y.deadline
              by_tick x y h = elim (order x.deadline y.deadline) [
                | inl less ↦ less
                | inr more ↦ let b : y.deadline / resolution ≤ x.deadline / resolution =
                    tick_rises y.deadline x.deadline resolution ticks more in absurd (omega arith)
              ]
                where
                  order : (m n : ℕ) → (m < n) ⊎ (n ≤ m)
                  order m n = grind arith

      pub found_some : (o : Option Timer)
          → o ≡ in_tick resolution tick turn (head_timer places (get_or heads s None))
          → true ≡ is_some o → o ≡ first_of (in_order (timers_of places))
      found_some None e some = absurd (cc)
      found_some (Some t) e some = found_tick t (sym e)

      pub found_none : (o : Option Timer)
          → o ≡ in_tick resolution tick turn (head_timer places (get_or heads s None))
          → false ≡ is_some o → (u : Timer) → Among u (timers_of places)
          → tick + (turn + 1) ≤ u.deadline / resolution
      found_none None e none = next_tick (sym e)
      found_none (Some t) e none = absurd (cc)

-- the spoke after a spoke
pub next_spoke : (at n spokes : ℕ) → at ≡ n % spokes → (at + 1) % spokes ≡ (n + 1) % spokes
next_spoke at n spokes is = ap (λ m. (m + 1) % spokes) is ∙ mod-add-mod n spokes 1

-- if the first leaves no other comes due sooner
pub none_sooner : (spokes resolution : ℕ) (heads : List (Option ℕ)) (places new : List Place)
    (first : Option Timer) (t : Timer) → IsWheel spokes resolution heads places first
    → IsPermutation (timers_of places) (t ∷ timers_of new) → Contains (timers_of places) t
    → is_behind first t ≡ false
    → All (λ u. t.deadline ≤ u.deadline) (timers_of new)
none_sooner spokes resolution heads places new first t wheel p has not_behind k d l =
    let u : Timer = get_or (timers_of new) k d in
    let a : Among u (timers_of places) =
    (members_permutation (timers_of places) (t ∷ timers_of new) p).back u
    (inr (among_from u (timers_of new) (k, l, get_or_default (timers_of new) k u d l))) in
    let order = members_in_order (timers_of places) in
    at u first (order.there u a) (order.there t (among_from t (timers_of places) has))
    wheel.earliest not_behind
  where
    timers : List Timer
    timers = in_order (timers_of places)

    sched : IsSchedule timers
    sched = schedule_in_order (timers_of places) wheel.apart

    -- no timer comes before the first
    from_first : (f v : Timer) (ts : List Timer) → is_rising ts ≡ true → Some f ≡ first_of ts
        → Among v ts → f.deadline ≤ v.deadline
    from_first f v [] rising e b = absurd b
    from_first f v (x ∷ ts) rising e (inl same) =
        omega (arith, ap (λ w. w.deadline) (it f x e), ap (λ w. w.deadline) same)
      where
        it : (y z : Timer) → Some y ≡ Some z → y ≡ z
        it y z e = cc
    from_first f v (x ∷ ts) rising e (inr b) =
        omega (
          arith,
          ap (λ w. w.deadline) (it f x e),
          not_later x v (all_at (λ w. comes_before x w) v ts
              (and_parts (list_all (λ w. comes_before x w) ts) (is_rising ts) rising).0 b),
        )
      where
        it : (y z : Timer) → Some y ≡ Some z → y ≡ z
        it y z e = cc

    at : (u : Timer) (o : Option Timer) → Among u timers → Among t timers → o ≡ first_of timers
        → is_behind o t ≡ false → t.deadline ≤ u.deadline
    at u None a b e is = absurd (cc)
    at u (Some f) a b e is = subst (λ v. v.deadline ≤ u.deadline) (one_timer (cases_eq x.0 y.0))
        (from_first f u timers sched.rising e a)
      where
        x : Contains (timers_of places) f
        x = among_at f (timers_of places) ((members_in_order (timers_of places)).back f
            (first_among f timers (sym e)))

        y : Contains (timers_of places) t
        y = among_at t (timers_of places) ((members_in_order (timers_of places)).back t b)

        same_number : f.timer ≡ t.timer
        same_number = eqb-true _ _ (not_false (f.timer == t.timer) is)
          where
            not_false : (b : Bool) → not b ≡ false → b ≡ true
            not_false true h = refl
            not_false false h = absurd (cc)

        one_timer : (x.0 ≡ y.0) ⊎ (x.0 ≢ y.0) → f ≡ t
        one_timer (inl same) = sym x.2 ∙ get_or_default (timers_of places) x.0 f t x.1
            ∙ ap (λ i. get_or (timers_of places) i t) same ∙ y.2
        one_timer (inr ne) = absurd (apart_at (timers_of places) x.0 y.0 f wheel.apart ne x.1 y.1
            (ap (λ v. v.timer) x.2 ∙ same_number
            ∙ sym (ap (λ v. v.timer) (get_or_default (timers_of places) y.0 f t y.1 ∙ y.2))))
