-- What one timer more or less is to the list of timers that timers in any order stand for.
use Rattle.std.proofs.Common.{ℕ, zero, suc, ◌≡◌, ◌≢◌, ◌+◌, ◌==◌, Bool, true, false, not, List, []}
use Rattle.std.proofs.Common.{◌∷◌, ◌++◌, length, refl, sym, ap, ◌∙◌, subst, arith, inl, inr}
use Rattle.std.proofs.lemmas.Bool.{and_from, not-true, both_ways, eq-eqb, ne_eqb}
use Rattle.std.proofs.lemmas.List.Sorted.{IsPermutation-sym, IsPermutation-trans}
use Rattle.std.proofs.lemmas.List.Sorted.{IsPermutation-to_front, length_permutation}
use Rattle.std.specs.List.{filter, All}
use Rattle.std.specs.List.Sorted.{IsPermutation}
use Rattle.timer_queue.specs.declared.timer.Timer.{Timer}
use Rattle.timer_queue.specs.Timers.{comes_before, is_scheduled, with_timer, without_timer}
use Rattle.timer_queue.specs.Timers.{in_order, AreApart}
use Rattle.timer_queue.proofs.Schedules.{filter_all, schedule_with, schedule_filtered}
use Rattle.timer_queue.proofs.Places.{none_at}
use Rattle.timer_queue.proofs.Members.{Among, SameMembers, among_at, any_among, all_among}
use Rattle.timer_queue.proofs.Members.{among_filter, among_filtered, among_with, among_within}
use Rattle.timer_queue.proofs.Members.{members_permutation, members_in_order, rising_same}
use Rattle.timer_queue.proofs.Members.{is_scheduled-same, schedule_in_order, in_order_is}
use Rattle.timer_queue.proofs.Members.{permutation_in_order}
use Rattle.timer_queue.proofs.Swaps.{apart_permutation}

-- ---- one timer more

pub apart_cons : (t : Timer) (xs : List Timer) → AreApart xs → is_scheduled t.timer xs ≡ false
    → AreApart (t ∷ xs)
apart_cons t xs apart none i zero d l m e = absurd (omega arith)
apart_cons t xs apart none zero (suc j) d l m e =
    both_ways _ (none_at (λ u. u.timer == t.timer) xs j d (omega arith) none) (eq-eqb _ _ (sym e))
apart_cons t xs apart none (suc i) (suc j) d l m e = apart i j d (omega arith) (omega arith) e

pub unscheduled : (number : ℕ) (xs : List Timer) → is_scheduled number (in_order xs) ≡ false
    → is_scheduled number xs ≡ false
unscheduled number xs h = is_scheduled-same number xs (in_order xs) (members_in_order xs) ∙ h

pub in_order-added : (t : Timer) (old new : List Timer) → AreApart old
    → is_scheduled t.timer (in_order old) ≡ false → IsPermutation (t ∷ old) new
    → in_order new ≡ with_timer t (in_order old)
in_order-added t old new apart fresh p =
    let m = members_permutation (t ∷ old) new p in
    let o = members_in_order old in
    let now : AreApart new = apart_permutation (t ∷ old) new p
    (apart_cons t old apart (unscheduled t.timer old fresh)) in
    in_order_is new (with_timer t (in_order old)) now
    (schedule_with t (in_order old) fresh (schedule_in_order old apart)).rising (record {
      there = λ u h. among_within t u (in_order old)
          (elim (m.back u h) [ inl e ↦ inl e | inr a ↦ inr (o.there u a) ]);
      back = λ u h. m.there u (elim (among_with t u (in_order old) h)
          [ inl e ↦ inl e | inr a ↦ inr (o.back u a) ]);
    })

-- ---- one timer less

pub head_apart : (t u : Timer) (xs : List Timer) → AreApart (t ∷ xs) → Among u xs
    → u.timer ≢ t.timer
head_apart t u xs apart a e =
    let c = among_at u xs a in
    apart zero (suc c.0) u (omega arith) (omega (arith, c.1)) (sym (ap (λ v. v.timer) c.2 ∙ e))

tail_apart : (t : Timer) (xs : List Timer) → AreApart (t ∷ xs) → AreApart xs
tail_apart t xs apart i j d l m = apart (suc i) (suc j) d (omega arith) (omega arith)

module _ (t : Timer) (old new : List Timer) (apart : AreApart old) (p : IsPermutation old (t ∷ new))
  where
    both_apart : AreApart (t ∷ new)
    both_apart = apart_permutation old (t ∷ new) p apart

    pub apart_removed : AreApart new
    apart_removed = tail_apart t new both_apart

    same_members : SameMembers old (t ∷ new)
    same_members = members_permutation old (t ∷ new) p

    pub length_removed : length new + 1 ≡ length old
    length_removed = omega (arith, length_permutation old (t ∷ new) p)

    pub in_order-removed : in_order new ≡ without_timer t.timer (in_order old)
    in_order-removed =
        let o = members_in_order old in
        let q : Timer → Bool = λ u. not (u.timer == t.timer) in
        in_order_is new (without_timer t.timer (in_order old)) apart_removed
        (schedule_filtered q (in_order old) (schedule_in_order old apart)).rising (record {
          there = λ u a. among_filtered q u (in_order old) (o.there u (same_members.back u (inr a)))
              (ap not (ne_eqb _ _ (head_apart t u new both_apart a)));
          back = λ u a.
              let f = among_filter q u (in_order old) a in
              elim (same_members.there u (o.back u f.0)) [
                | inl e ↦ absurd (both_ways _ (not-true _ f.1)
                    (eq-eqb u.timer t.timer (ap (λ v. v.timer) (sym e))))
                | inr b ↦ b
              ];
        })

    pub was_scheduled : is_scheduled t.timer (in_order old) ≡ true
    was_scheduled = any_among (λ u. u.timer == t.timer) t (in_order old)
        ((members_in_order old).there t (same_members.back t (inl refl))) (eq-eqb _ _ refl)

    -- if the first of the heap is taken
    pub in_order-first : ((u : Timer) → Among u new → comes_before t u ≡ true)
        → in_order old ≡ t ∷ in_order new
    in_order-first first =
        let n = members_in_order new in
        in_order_is old (t ∷ in_order new) apart
        (and_from _ _ (all_among (λ u. comes_before t u) (in_order new)
        (λ u a. first u (n.back u a)))
        (schedule_in_order new apart_removed).rising)
        (record {
          there = λ u a. elim (same_members.there u a)
              [ inl e ↦ inl e | inr b ↦ inr (n.there u b) ];
          back = λ u a. elim a [
            | inl e ↦ same_members.back u (inl e)
            | inr b ↦ same_members.back u
                (inr (n.back u b))
          ];
        })

    -- a filter that it does not pass gives the same of both
    pub filter-removed : (q : Timer → Bool) → q t ≡ false
        → filter q (in_order new) ≡ filter q (in_order old)
    filter-removed q out =
        let n = members_in_order new in
        let o = members_in_order old in
        rising_same (filter q (in_order new)) (filter q (in_order old))
        (schedule_filtered q (in_order new) (schedule_in_order new apart_removed)).rising
        (schedule_filtered q (in_order old) (schedule_in_order old apart)).rising (record {
          there = λ u a. let f = among_filter q u (in_order new) a in
              among_filtered q u (in_order old) (o.there u
              (same_members.back u (inr (n.back u f.0))))
              f.1;
          back = λ u a.
              let f = among_filter q u (in_order old) a in
              elim (same_members.there u (o.back u f.0)) [
                | inl e ↦ absurd (both_ways _ (ap q (sym e) ∙ out) f.1)
                | inr b ↦ among_filtered q u (in_order new) (n.there u b) f.1
              ];
        })

pub apart_push : (t : Timer) (slots : List Timer) → AreApart slots
    → is_scheduled t.timer (in_order slots) ≡ false → AreApart (slots ++ t ∷ [])
apart_push t slots apart fresh =
    apart_permutation (t ∷ slots) (slots ++ t ∷ [])
    (IsPermutation-sym (slots ++ t ∷ []) (t ∷ slots) (IsPermutation-to_front slots t))
    (apart_cons t slots apart (unscheduled t.timer slots fresh))

pub permutation_pushed : (t : Timer) (slots new : List Timer) → IsPermutation (slots ++ t ∷ []) new
    → IsPermutation (t ∷ slots) new
permutation_pushed t slots new p =
    IsPermutation-trans (t ∷ slots) (slots ++ t ∷ []) new
    (IsPermutation-sym (slots ++ t ∷ []) (t ∷ slots) (IsPermutation-to_front slots t)) p

-- a test that no timer passes takes nothing from the list
pub filter_none : (q : Timer → Bool) (slots : List Timer) → All (λ t. q t ≡ true) slots
    → filter q (in_order slots) ≡ in_order slots
filter_none q slots all = filter_all q (in_order slots) (all_among q (in_order slots) (λ t a.
    let c = among_at t slots ((members_in_order slots).back t a) in
    subst (λ u. q u ≡ true) c.2 (all c.0 t c.1)))

pub length-in_order : (slots : List Timer) → length (in_order slots) ≡ length slots
length-in_order slots = length_permutation slots (in_order slots) (permutation_in_order slots)
