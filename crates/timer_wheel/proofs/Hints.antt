-- A way that begins after a place of the chain.
use Rattle.std.proofs.Common.{ℕ, ◌≡◌, ◌≢◌, ◌<◌, ◌≤◌, ◌==◌, Bool, true, Contains, length, get_or}
use Rattle.std.proofs.Common.{List, [], ◌∷◌, refl, sym, ap, ◌∙◌, subst, inl, inr, Option, Some}
use Rattle.std.proofs.Common.{None}
use Rattle.std.proofs.lemmas.Bool.{and_parts, and_from, eq-eqb}
use Rattle.std.specs.List.{list_all, slice_get}
use Rattle.timer_queue.specs.declared.timer.Timer.{Timer}
use Rattle.timer_queue.specs.Timers.{comes_before, is_rising, in_order, AreApart, IsSchedule}
use Rattle.timer_queue.proofs.Schedules.{before_trans, schedule_filtered}
use Rattle.timer_queue.proofs.Members.{Among, all_at, among_at, among_from, among_filtered}
use Rattle.timer_queue.proofs.Members.{members_in_order, schedule_in_order}
use Rattle.timer_wheel.specs.declared.place.Place.{Place}
use Rattle.timer_wheel.specs.Spokes.{spoke_of, of_spoke, timers_of, Follows}
use Rattle.timer_wheel.specs.Chains.{Walked, IsStart, IsGap, AreChains}
use Rattle.timer_wheel.proofs.Steps.{one_place, among_places, short_chain, gap_place}

-- the way to a place of the chain whose timer comes before t
pub walk_behind : (places : List Place) (t : Timer) (k : ℕ) (p : Place)
    → AreApart (timers_of places) → slice_get places k ≡ Some p → comes_before p.timer t ≡ true
    → (at : Option ℕ) (timers : List Timer) → Follows places at timers → is_rising timers ≡ true
    → Among p.timer timers → Walked places at t timers (Some k) p.next
walk_behind places t k p apart e first at [] f rising a = absurd a
walk_behind places t k p apart e first at (u ∷ rest) f rising (inl same) =
    let here : f.0 ≡ k = one_place places f.0 k f.2 p apart f.3 e (ap (λ v. v.timer) (f.4 ∙ same))
    in
    let place : f.2 ≡ p = same_place f.0 k f.2 p here f.3 e in
    record {
      front = u ∷ [];
      back = rest;
      whole = refl;
      before = and_from (comes_before u t) true
          (subst (λ v. comes_before v t ≡ true) (sym same) first) refl;
      is_last = ([], p, ap (λ v. v ∷ []) same, e, f.1 ∙ ap Some here);
      reaches = (k, f.1 ∙ ap Some here, p, e, sym same, refl);
      follows = subst (λ q. Follows places q.next rest) place f.5;
    }
  where
    same_place : (i j : ℕ) (x y : Place) → i ≡ j → slice_get places i ≡ Some x
        → slice_get places j ≡ Some y → x ≡ y
    same_place i j x y s b c = cc
walk_behind places t k p apart e first at (u ∷ rest) f rising (inr a) =
    let parts : (list_all (λ v. comes_before u v) rest ≡ true) × (is_rising rest ≡ true) =
    and_parts (list_all (λ v. comes_before u v) rest) (is_rising rest) rising in
    let w : Walked places f.2.next t rest (Some k) p.next =
    walk_behind places t k p apart e first f.2.next rest f.5 parts.1 a in
    record {
      front = u ∷ w.front;
      back = w.back;
      whole = ap (λ us. u ∷ us) w.whole;
      before = and_from (comes_before u t) (list_all (λ v. comes_before v t) w.front)
          (before_trans u p.timer t (all_at (λ v. comes_before u v) p.timer rest parts.0 a) first)
          w.before;
      is_last = (
        u ∷ w.is_last.0,
        w.is_last.1,
        ap (λ us. u ∷ us) w.is_last.2,
        w.is_last.3,
        (f.0, f.1, f.2, f.3, f.4, w.is_last.4),
      );
      reaches = (f.0, f.1, f.2, f.3, f.4, w.reaches);
      follows = w.follows;
    }

-- what is known of a place to begin after: its timer stands in the spoke of t and comes before it
abbrev pub IsFound : ℕ → ℕ → ℕ → List Place → Timer → Option ℕ → Type 0
IsFound spokes resolution hole places t start =
    (k : ℕ) (p : Place) → start ≡ Some k → slice_get places k ≡ Some p → (k ≢ hole)
    × (spoke_of spokes resolution p.timer.deadline ≡ spoke_of spokes resolution t.deadline)
    × (comes_before p.timer t ≡ true)

-- a place of the spoke is one to begin after
pub start_in_spoke : (spokes resolution s hole : ℕ) (places : List Place) (timers : List Timer)
    (t : Timer) (start : Option ℕ) → s ≡ spoke_of spokes resolution t.deadline
    → IsFound spokes resolution hole places t start
    → ((k : ℕ) (p : Place) → k ≢ hole → slice_get places k ≡ Some p → Among p.timer timers)
    → IsStart places (of_spoke spokes resolution s timers) t start
start_in_spoke spokes resolution s hole places timers t start is found there k p e at =
    let h = found k p e at in (
      among_at p.timer (of_spoke spokes resolution s timers)
          (among_filtered (λ u. spoke_of spokes resolution u.deadline == s) p.timer timers
          (there k p h.0 at) (eq-eqb _ _ (h.1 ∙ sym is))),
      h.2,
    )

-- what the way to a timer that is there finds
pub record Found (spokes resolution : ℕ) (heads : List (Option ℕ)) (places : List Place) (t : Timer)
    (s : ℕ) (last at : Option ℕ) : Type 0 where
  pub spoke_is : s ≡ spoke_of spokes resolution t.deadline
  pub within : s < length heads
  pub sched : IsSchedule (in_order (timers_of places))
  pub there : Among t (in_order (timers_of places))
  pub gap : IsGap places (get_or heads s None) t
      (of_spoke spokes resolution s (in_order (timers_of places))) last at
  pub place : ℕ
  pub at_place : at ≡ Some place
  pub found : Place
  pub stands : slice_get places place ≡ Some found
  pub timer : found.timer ≡ t

pub found_by : (spokes resolution : ℕ) (heads : List (Option ℕ)) (places : List Place) (t : Timer)
    (s hole : ℕ) (head start last at : Option ℕ) → AreApart (timers_of places)
    → Contains (timers_of places) t → AreChains spokes resolution heads places
    (in_order (timers_of places))
    → spokes ≡ length heads → s ≡ spoke_of spokes resolution t.deadline → s < spokes
    → head ≡ get_or heads s None
    → ((ts : List Timer) → Follows places head ts → length ts ≤ length places → is_rising ts ≡ true
    → IsStart places ts t start → IsGap places head t ts last at)
    → IsFound spokes resolution hole places t start
    → Found spokes resolution heads places t s last at
found_by spokes resolution heads places t s hole head start last at apart has chains n is l h gap
    start_found =
    let timers : List Timer = in_order (timers_of places) in
    let q : Timer → Bool = λ u. spoke_of spokes resolution u.deadline == s in
    let sched : IsSchedule timers = schedule_in_order (timers_of places) apart in
    let part : IsSchedule (of_spoke spokes resolution s timers) =
    schedule_filtered q timers sched in
    let there : Among t timers = (members_in_order (timers_of places)).there t
    (among_from t (timers_of places) has) in
    let g : IsGap places (get_or heads s None) t (of_spoke spokes resolution s timers) last at =
    subst (λ a. IsGap places a t (of_spoke spokes resolution s timers) last at) h
    (gap (of_spoke spokes resolution s timers)
    (subst (λ a. Follows places a (of_spoke spokes resolution s timers)) (sym h) (chains s l))
    (short_chain spokes resolution s places) part.rising
    (start_in_spoke spokes resolution s hole places timers t start is start_found
    (λ k p ne e. (members_in_order (timers_of places)).there p.timer
    (among_places places k p e)))) in
    let f = gap_place places (get_or heads s None) t (of_spoke spokes resolution s timers) last at g
    part.rising (among_filtered q t timers there (eq-eqb _ _ (sym is))) in
    record {
      spoke_is = is;
      within = subst (λ m. s < m) n l;
      sched = sched;
      there = there;
      gap = g;
      place = f.0;
      at_place = f.1;
      found = f.2;
      stands = f.3;
      timer = f.4;
    }
