-- The armed timers in their two tables.
use Rattle.std.proofs.Common.{ℕ, zero, ◌≡◌, ◌+◌, ◌<◌, ◌≤◌, ◌==◌, Bool, true, false, not, ◌&&◌, List}
use Rattle.std.proofs.Common.{[], ◌∷◌, length, map, refl, sym, ap, ◌∙◌, subst, cond, Option, Some}
use Rattle.std.proofs.Common.{None, arith, inl, inr}
use Rattle.std.proofs.lemmas.Bool.{cases_eq, eq-eqb, ne_eqb, eqb-true, and_from, lt-leb}
use Rattle.std.proofs.lemmas.List.Elements.{filter_agree}
use Rattle.std.specs.List.{list_any, find, filter, All}
use Rattle.std.specs.Option.{option_map}
use Rattle.ev_types.specs.declared.upcall.Handle.{Handle}
use Rattle.reactor_summary.specs.Tells.{Each}
use Rattle.reactor_summary.specs.reactor_journal.specs.Past.{count}
use Rattle.timer_queue.specs.declared.timer.Timer.{Timer}
use Rattle.timer_queue.specs.Timers as T
use Rattle.reactor_summary.specs.declared.parts.ArmedTimer.{ArmedTimer}
use Rattle.reactor_summary.specs.Summary as S
use Rattle.reactor_summary.proofs.Lists.{filter-map, any-map}
use Rattle.reactor_state.specs.declared.armed.Owner.{Owner}
use Rattle.reactor_state.specs.declared.armed.Armed.{Armed}
use Rattle.reactor_state.specs.Rises.{RisesIn}
use Rattle.reactor_state.specs.Tables.{timer_of, armed_of, IsOnce, HasOwners, HasArmed}
use Rattle.reactor_state.proofs.Lists.{one, count_cons, count-filter, none_counted, count_none}
use Rattle.reactor_state.proofs.Lists.{count_all, count_found, found_each, found_both, find_absent}
use Rattle.reactor_state.proofs.Lists.{filter_none_of, passes}
use Rattle.reactor_state.proofs.Rising.{rises_to, rises-filter}

pub eqb_sym : (a b : ℕ) → (a == b) ≡ (b == a)
eqb_sym a b =
    elim (cases_eq a b) [
      | inl same ↦ eq-eqb a b same ∙ sym (eq-eqb b a (sym same))
      | inr other ↦ ne_eqb a b other ∙ sym (ne_eqb b a (λ e. other (sym e)))
    ]

-- ---- one timer more

with_timer_map : (t : Timer) (ts : List Timer)
    → map armed_of (T.with_timer t ts) ≡ S.with_timer (armed_of t) (map armed_of ts)
with_timer_map t [] = refl
with_timer_map t (u ∷ ts) = step (T.comes_before t u) (with_timer_map t ts)
  where
    step : (b : Bool) → map armed_of (T.with_timer t ts)
        ≡ S.with_timer (armed_of t) (map armed_of ts)
        → map armed_of (cond b (t ∷ u ∷ ts) (u ∷ T.with_timer t ts))
        ≡ cond b (armed_of t ∷ armed_of u ∷ map armed_of ts)
        (armed_of u ∷ S.with_timer (armed_of t) (map armed_of ts))
    step true rest = refl
    step false rest = ap (λ xs. armed_of u ∷ xs) rest

pub count-with_timer : (p : ArmedTimer → Bool) (a : ArmedTimer) (xs : List ArmedTimer)
    → count p (S.with_timer a xs) ≡ count p xs + one (p a)
count-with_timer p a [] = omega (arith, count_cons p a [])
count-with_timer p a (b ∷ xs) = step (S.comes_before a b) (count-with_timer p a xs)
  where
    step : (c : Bool) → count p (S.with_timer a xs) ≡ count p xs + one (p a)
        → count p (cond c (a ∷ b ∷ xs) (b ∷ S.with_timer a xs)) ≡ count p (b ∷ xs) + one (p a)
    step true rest = omega (arith, count_cons p a (b ∷ xs))
    step false rest = omega (arith, count_cons p b (S.with_timer a xs), count_cons p b xs, rest)

-- no owner of a timer that is not armed
pub no_owner : (owners : List Owner) (armed : List ArmedTimer) (n : ℕ) → HasOwners owners armed
    → list_any (λ (a : ArmedTimer). a.timer == n) armed ≡ false
    → list_any (λ (o : Owner). o.timer == n) owners ≡ false
no_owner owners armed n has h = count_none (λ (o : Owner). o.timer == n) owners
    (has.same (λ t x. t == n) ∙ none_counted (λ (a : ArmedTimer). a.timer == n) armed h)

owners_kept : (owners less : List Owner) (armed : List ArmedTimer) (q : ℕ → ℕ → Bool)
    → HasOwners owners armed → less ≡ filter (λ (o : Owner). q o.timer o.handle.0) owners
    → HasOwners less (filter (λ (a : ArmedTimer). q a.timer a.handle.0) armed)
owners_kept owners less armed q has rest = record {
  bound = has.bound;
  rising = subst (RisesIn timer_of 0 has.bound) (sym rest)
      (rises-filter timer_of 0 has.bound (λ (o : Owner). q o.timer o.handle.0) owners has.rising);
  same = λ p.
      ap (count (λ (o : Owner). p o.timer o.handle.0)) rest
      ∙ count-filter (λ (o : Owner). p o.timer o.handle.0) (λ (o : Owner). q o.timer o.handle.0)
      owners
      ∙ has.same (λ t x. q t x && p t x)
      ∙ sym (count-filter (λ (a : ArmedTimer). p a.timer a.handle.0)
      (λ (a : ArmedTimer). q a.timer a.handle.0) armed);
}

first_out : (t : Timer) (ts : List Timer) → IsOnce (armed_of t ∷ map armed_of ts)
    → S.without_timer t.timer (armed_of t ∷ map armed_of ts) ≡ map armed_of ts
first_out t ts once =
    let here : (t.timer == t.timer) ≡ true = eq-eqb t.timer t.timer refl in
    let one_here : one (t.timer == t.timer) ≡ 1 = ap one here in
    let none : list_any (λ (a : ArmedTimer). a.timer == t.timer) (map armed_of ts) ≡ false =
    count_none (λ (a : ArmedTimer). a.timer == t.timer) (map armed_of ts)
    (omega (
      arith,
      once t.timer,
      count_cons (λ (a : ArmedTimer). a.timer == t.timer)
          (armed_of t) (map armed_of ts),
      one_here,
    )) in
    ap (λ b. cond (not b) (armed_of t ∷ S.without_timer t.timer (map armed_of ts))
    (S.without_timer t.timer (map armed_of ts))) here
    ∙ filter_none_of (λ (a : ArmedTimer). a.timer == t.timer) (map armed_of ts) none

-- if no deadline is reached
pub none_reached : (moment : ℕ) (ts : List Timer) (armed : List ArmedTimer)
    → map armed_of ts ≡ armed → All (λ (t : Timer). moment < t.deadline) ts
    → S.is_reached moment armed ≡ false
none_reached moment ts armed is later = sym (ap (S.is_reached moment) is) ∙ at_first ts later
  where
    at_first : (us : List Timer) → All (λ (t : Timer). moment < t.deadline) us
        → S.is_reached moment (map armed_of us) ≡ false
    at_first [] h = refl
    at_first (u ∷ us) h = lt-leb u.deadline moment (h zero u (omega arith))

-- as many owners as armed timers
pub same_length : (owners : List Owner) (armed : List ArmedTimer) → HasOwners owners armed
    → length owners ≡ length armed
same_length owners armed has = sym (count_all owners) ∙ has.same (λ t x. true) ∙ count_all armed

-- the handle of an owner is that of the armed timer
pub owner_handle : (owners : List Owner) (armed : List ArmedTimer) (n : ℕ) (o : Owner)
    → HasOwners owners armed → IsOnce armed → find (λ (p : Owner). p.timer == n) owners ≡ Some o
    → ◌≡◌ {A = Option Handle} (Some o.handle)
    (option_map (λ (a : ArmedTimer). a.handle) (find (λ (a : ArmedTimer). a.timer == n) armed))
owner_handle owners armed n o has once found =
    let named : (o.timer == n) ≡ true = (found_test n owners o found) in
    let test : (o.timer == n && o.handle.0 == o.handle.0) ≡ true =
    and_from (o.timer == n) (o.handle.0 == o.handle.0) named (eq-eqb o.handle.0 o.handle.0 refl)
    in
    let some_owner : 1 ≤ count (λ (p : Owner). p.timer == n && p.handle.0 == o.handle.0) owners =
    count_found (λ (p : Owner). p.timer == n && p.handle.0 == o.handle.0)
    (λ (p : Owner). p.timer == n) owners o found test in
    let same : count (λ (p : Owner). p.timer == n && p.handle.0 == o.handle.0) owners
    ≡ count (λ (a : ArmedTimer). a.timer == n && a.handle.0 == o.handle.0) armed =
    has.same (λ t x. t == n && x == o.handle.0) in
    by_case (find (λ (a : ArmedTimer). a.timer == n) armed)
    (found_both (λ (a : ArmedTimer). a.timer == n)
    (λ (a : ArmedTimer). a.handle.0 == o.handle.0) armed (omega arith) (once n))
  where
    found_test : (n : ℕ) (os : List Owner) (o : Owner)
        → find (λ (p : Owner). p.timer == n) os ≡ Some o → (o.timer == n) ≡ true
    found_test n os o h = (found_each (λ (p : Owner). Unit {0}) (λ (p : Owner). p.timer == n) os o
        (each_unit os) h).1
      where
        each_unit : (os : List Owner) → Each (λ (p : Owner). Unit {0}) os
        each_unit [] = tt
        each_unit (p ∷ ps) = (tt, each_unit ps)

    by_case : (found : Option ArmedTimer)
        → passes (λ (a : ArmedTimer). a.handle.0 == o.handle.0) found ≡ true
        → ◌≡◌ {A = Option Handle} (Some o.handle) (option_map (λ (a : ArmedTimer). a.handle) found)
    by_case None h = absurd (cc)
    by_case (Some a) h = let e : o.handle.0 ≡ a.handle.0 = sym (eqb-true a.handle.0 o.handle.0 h) in
        ap (λ (k : ℕ). let x : Handle = record { 0 = k } in Some x) e

pub no_handle : (owners : List Owner) (armed : List ArmedTimer) (n : ℕ) → HasOwners owners armed
    → list_any (λ (p : Owner). p.timer == n) owners ≡ false
    → find (λ (a : ArmedTimer). a.timer == n) armed ≡ None
no_handle owners armed n has h = find_absent (λ (a : ArmedTimer). a.timer == n) armed
    (count_none (λ (a : ArmedTimer). a.timer == n) armed
    (sym (has.same (λ t x. t == n)) ∙ none_counted (λ (p : Owner). p.timer == n) owners h))

module _ {Q : Type 0} where
  pub armed_more : (timers : Q → List Timer) (old new : Armed Q) (armed : List ArmedTimer)
      (t : Timer) → HasArmed timers old armed → T.is_scheduled t.timer (timers old.timers) ≡ false
      → timers new.timers ≡ T.with_timer t (timers old.timers)
      → ((hi : ℕ) → RisesIn timer_of 0 hi old.owners.items → t.timer < hi
      → list_any (λ (o : Owner). o.timer == t.timer) old.owners.items ≡ false
      → RisesIn timer_of 0 hi new.owners.items)
      → ((p : ℕ → ℕ → Bool) → count (λ (o : Owner). p o.timer o.handle.0) new.owners.items
      ≡ count (λ (o : Owner). p o.timer o.handle.0) old.owners.items
      + cond (p t.timer t.handle.0) 1 0)
      → HasArmed timers new (S.with_timer (armed_of t) armed)
  armed_more timers old new armed t has fresh scheduled rising counts =
      let absent : list_any (λ (a : ArmedTimer). a.timer == t.timer) armed ≡ false =
      sym (ap (list_any (λ (a : ArmedTimer). a.timer == t.timer)) has.timers_are)
      ∙ any-map (λ (a : ArmedTimer). a.timer == t.timer) armed_of (timers old.timers) ∙ fresh in
      record {
        timers_are = ap (map armed_of) scheduled ∙ with_timer_map t (timers old.timers)
            ∙ ap (S.with_timer (armed_of t)) has.timers_are;
        owners = record {
          bound = has.owners.bound + (t.timer + 1);
          rising = rising (has.owners.bound + (t.timer + 1))
              (rises_to timer_of 0 has.owners.bound (has.owners.bound + (t.timer + 1))
              old.owners.items (omega arith) has.owners.rising) (omega arith)
              (no_owner old.owners.items armed t.timer has.owners absent);
          same = λ p. let before : count (λ (o : Owner). p o.timer o.handle.0) old.owners.items
              ≡ count (λ (a : ArmedTimer). p a.timer a.handle.0) armed = has.owners.same p in
              omega (
                arith,
                counts p,
                count-with_timer (λ (a : ArmedTimer). p a.timer a.handle.0)
                    (armed_of t) armed,
              );
        };
      }

  -- those that pass a test of number and handle alone
  pub armed_kept : (timers : Q → List Timer) (old new : Armed Q) (armed : List ArmedTimer)
      (q : ℕ → ℕ → Bool) → HasArmed timers old armed
      → timers new.timers ≡ filter (λ (t : Timer). q t.timer t.handle.0) (timers old.timers)
      → ((hi : ℕ) → RisesIn timer_of 0 hi old.owners.items
      → new.owners.items ≡ filter (λ (o : Owner). q o.timer o.handle.0) old.owners.items)
      → HasArmed timers new (filter (λ (a : ArmedTimer). q a.timer a.handle.0) armed)
  armed_kept timers old new armed q has kept items = record {
    timers_are = ap (map armed_of) kept
        ∙ sym (filter-map (λ (a : ArmedTimer). q a.timer a.handle.0) armed_of (timers old.timers))
        ∙ ap (filter (λ (a : ArmedTimer). q a.timer a.handle.0)) has.timers_are;
    owners = owners_kept old.owners.items new.owners.items armed q has.owners
        (items has.owners.bound has.owners.rising);
  }

  -- the first timer is taken out
  pub armed_popped : (timers : Q → List Timer) (old new : Armed Q) (armed : List ArmedTimer)
      (t : Timer) → HasArmed timers old armed → IsOnce armed
      → timers old.timers ≡ t ∷ timers new.timers
      → ((hi : ℕ) → RisesIn timer_of 0 hi old.owners.items
      → new.owners.items ≡ filter (λ (o : Owner). not (o.timer == t.timer)) old.owners.items)
      → HasArmed timers new (S.without_timer t.timer armed)
  armed_popped timers old new armed t has once taken items =
      let is : armed ≡ armed_of t ∷ map armed_of (timers new.timers) =
      sym has.timers_are ∙ ap (map armed_of) taken in
      record {
        timers_are = sym (ap (S.without_timer t.timer) is
            ∙ first_out t (timers new.timers) (subst IsOnce is once));
        owners = owners_kept old.owners.items new.owners.items armed (λ n x. not (n == t.timer))
            has.owners (items has.owners.bound has.owners.rising);
      }

-- the owners' order of the two numbers
pub turned : (n : ℕ) (xs ys : List Owner) → ys ≡ filter (λ (o : Owner). not (n == o.timer)) xs
    → ys ≡ filter (λ (o : Owner). not (o.timer == n)) xs
turned n xs ys h = h ∙ filter_agree (λ (o : Owner). not (n == o.timer))
    (λ (o : Owner). not (o.timer == n)) (λ o. ap not (eqb_sym n o.timer)) xs
