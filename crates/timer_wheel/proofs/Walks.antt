-- The way along a chain.
use Rattle.std.proofs.Common.{ℕ, ◌≡◌, ◌+◌, ◌≤◌, true, false, not, List, [], ◌∷◌, ◌++◌, length, refl}
use Rattle.std.proofs.Common.{sym, ap, ◌∙◌, subst, arith, Option, Some, None, inl, inr}
use Rattle.std.proofs.lemmas.Bool.{and_parts, and_from, both_ways, not-true, false_from_ne_true}
use Rattle.std.proofs.lemmas.List.{append_assoc, length-append, length_push, nil_from_length}
use Rattle.std.proofs.lemmas.List.Folds.{list_all-append}
use Rattle.std.specs.List.{list_all, slice_get}
use Rattle.timer_queue.specs.declared.timer.Timer.{Timer}
use Rattle.timer_queue.specs.Timers.{comes_before, is_rising}
use Rattle.timer_queue.proofs.Schedules.{before_trans, before_not}
use Rattle.timer_queue.proofs.Members.{Among, all_at}
use Rattle.timer_wheel.specs.declared.place.Place.{Place}
use Rattle.timer_wheel.specs.Spokes.{Follows}
use Rattle.timer_wheel.specs.Chains.{Reaches, Walked, IsGap}

pub walk_start : (places : List Place) (head : Option ℕ) (t : Timer) (timers : List Timer)
    → Follows places head timers → Walked places head t timers None head
walk_start places head t timers h =
    record {
      front = [];
      back = timers;
      whole = refl;
      before = refl;
      is_last = refl;
      reaches = refl;
      follows = h;
    }

pub reaches_more : (places : List Place) (at : Option ℕ) (front : List Timer) (k : ℕ) (p : Place)
    → Reaches places at front (Some k) → slice_get places k ≡ Some p
    → Reaches places at (front ++ p.timer ∷ []) p.next
reaches_more places at [] k p h e = (k, h, p, e, refl, refl)
reaches_more places at (u ∷ front) k p h e =
    (h.0, h.1, h.2, h.3, h.4, reaches_more places h.2.next front k p h.5 e)

-- what stands at a place of the chain
pub stands_at : (places : List Place) (k : ℕ) (p : Place) (back : List Timer)
    → Follows places (Some k) back → slice_get places k ≡ Some p → (rest : List Timer)
    × (back ≡ p.timer ∷ rest) × Follows places p.next rest
stands_at places k p [] h e = absurd (cc)
stands_at places k p (u ∷ rest) h e =
    let same : h.2 ≡ p = same_place h.0 k h.2 p h.1 h.3 e in (
      rest,
      ap (λ v. v ∷ rest) (sym h.4 ∙ ap (λ q. q.timer) same),
      subst (λ q. Follows places q.next rest) same h.5,
    )
  where
    same_place : (i j : ℕ) (x y : Place) → Some j ≡ Some i → slice_get places i ≡ Some x
        → slice_get places j ≡ Some y → x ≡ y
    same_place i j x y s a b = cc

-- each place of a chain is there
pub is_there : (places : List Place) (k : ℕ) (back : List Timer) → Follows places (Some k) back
    → slice_get places k ≡ None → ⊥
is_there places k [] h none = cc
is_there places k (u ∷ rest) h none = nowhere h.0 h.2 h.1 h.3
  where
    nowhere : (i : ℕ) (x : Place) → Some k ≡ Some i → slice_get places i ≡ Some x → ⊥
    nowhere i x s a = cc

pub ended : (places : List Place) (back : List Timer) → Follows places None back → back ≡ []
ended places [] h = refl
ended places (u ∷ rest) h = no_place h.0 h.1
  where
    no_place : (i : ℕ) → None ≡ Some i → u ∷ rest ≡ []
    no_place i e = absurd (cc)

-- over one timer more that comes before t
pub walk_on : (places : List Place) (head : Option ℕ) (t : Timer) (timers : List Timer)
    (last : Option ℕ) (k : ℕ) (p : Place) (n : ℕ) → (w : Walked places head t timers last (Some k))
    → n ≤ length w.front → slice_get places k ≡ Some p → comes_before p.timer t ≡ true
    → (v : Walked places head t timers (Some k) p.next) × (n + 1 ≤ length v.front)
walk_on places head t timers last k p n w len e first =
    let s = stands_at places k p w.back w.follows e in (
      record {
        front = w.front ++ p.timer ∷ [];
        back = s.0;
        whole = w.whole ∙ ap (λ b. w.front ++ b) s.1
            ∙ sym (append_assoc w.front (p.timer ∷ []) s.0);
        before = list_all-append (λ u. comes_before u t) w.front (p.timer ∷ [])
            ∙ and_from (list_all (λ u. comes_before u t) w.front) _ w.before
            (and_from (comes_before p.timer t) true first refl);
        is_last = (w.front, p, refl, e, w.reaches);
        reaches = reaches_more places head w.front k p w.reaches e;
        follows = s.2;
      },
      omega (arith, len, length_push w.front p.timer),
    )

-- ---- where the way ends

rising_back : (front back : List Timer) → is_rising (front ++ back) ≡ true → is_rising back ≡ true
rising_back [] back h = h
rising_back (u ∷ front) back h = rising_back front back
    (and_parts (list_all (λ v. comes_before u v) (front ++ back)) (is_rising (front ++ back)) h).1

none_before : (u t : Timer) (rest : List Timer) → list_all (λ v. comes_before u v) rest ≡ true
    → comes_before u t ≡ false → list_all (λ v. not (comes_before v t)) rest ≡ true
none_before u t [] h k = refl
none_before u t (v ∷ rest) h k =
    let p : (comes_before u v ≡ true) × (list_all (λ w. comes_before u w) rest ≡ true) =
    and_parts (comes_before u v) (list_all (λ w. comes_before u w) rest) h in
    and_from (not (comes_before v t)) _
    (ap not (false_from_ne_true (comes_before v t)
    (λ e. both_ways _ k (before_trans u v t p.0 e)))) (none_before u t rest p.1 k)

pub gap_end : (places : List Place) (head : Option ℕ) (t : Timer) (timers : List Timer)
    (last at : Option ℕ) → (w : Walked places head t timers last at) → w.back ≡ []
    → IsGap places head t timers last at
gap_end places head t timers last at w e =
    record { way = w; behind = ap (λ b. list_all (λ u. not (comes_before u t)) b) e }

pub gap_stop : (places : List Place) (head : Option ℕ) (t : Timer) (timers : List Timer)
    (last : Option ℕ) (k : ℕ) (p : Place) → (w : Walked places head t timers last (Some k))
    → slice_get places k ≡ Some p → comes_before p.timer t ≡ false → is_rising timers ≡ true
    → IsGap places head t timers last (Some k)
gap_stop places head t timers last k p w e first rising =
    let s = stands_at places k p w.back w.follows e in
    let back : is_rising (p.timer ∷ s.0) ≡ true =
    rising_back w.front (p.timer ∷ s.0)
    (ap is_rising (sym (w.whole ∙ ap (λ b. w.front ++ b) s.1)) ∙ rising) in
    record {
      way = w;
      behind = ap (λ b. list_all (λ u. not (comes_before u t)) b) s.1
          ∙ and_from (not (comes_before p.timer t)) _ (ap not first)
          (none_before p.timer t s.0 (and_parts (list_all (λ v. comes_before p.timer v) s.0)
          (is_rising s.0) back).0 first);
    }

-- the way is no longer than the places
pub gap_full : (places : List Place) (head : Option ℕ) (t : Timer) (timers : List Timer)
    (last at : Option ℕ) (n : ℕ) → (w : Walked places head t timers last at) → n ≤ length w.front
    → length timers ≤ n → IsGap places head t timers last at
gap_full places head t timers last at n w len few =
    gap_end places head t timers last at w
    (nil_from_length w.back (omega (
      arith,
      len,
      few,
      length-append w.front w.back,
      ap length w.whole,
    )))

-- if the timer is one of the chain, the way ends before it
pub gap_holds : (places : List Place) (head : Option ℕ) (t : Timer) (timers : List Timer)
    (last at : Option ℕ) → (g : IsGap places head t timers last at) → is_rising timers ≡ true
    → Among t timers → (rest : List Timer) × (g.way.back ≡ t ∷ rest)
gap_holds places head t timers last at g rising among =
    first g.way.back g.behind (rising_back g.way.front g.way.back
    (ap is_rising (sym g.way.whole) ∙ rising))
    (behind_it g.way.front g.way.back (subst (λ ts. Among t ts) g.way.whole among) g.way.before)
  where
    not_itself : comes_before t t ≡ true → ⊥
    not_itself h = both_ways (comes_before t t) (before_not t t h) h

    behind_it : (front back : List Timer) → Among t (front ++ back)
        → list_all (λ u. comes_before u t) front ≡ true → Among t back
    behind_it [] back a h = a
    behind_it (u ∷ front) back (inl e) h =
        absurd (not_itself (subst (λ v. comes_before v t ≡ true) e
        (and_parts (comes_before u t) (list_all (λ v. comes_before v t) front) h).0))
    behind_it (u ∷ front) back (inr a) h =
        behind_it front back a (and_parts (comes_before u t)
        (list_all (λ v. comes_before v t) front) h).1

    first : (back : List Timer) → list_all (λ u. not (comes_before u t)) back ≡ true
        → is_rising back ≡ true → Among t back → (rest : List Timer) × (back ≡ t ∷ rest)
    first [] h r a = absurd a
    first (u ∷ rest) h r (inl e) = (rest, ap (λ v. v ∷ rest) e)
    first (u ∷ rest) h r (inr a) =
        absurd (both_ways (comes_before u t)
        (not-true _ (and_parts (not (comes_before u t))
        (list_all (λ v. not (comes_before v t)) rest) h).0)
        (all_at (λ v. comes_before u v) t rest
        (and_parts (list_all (λ v. comes_before u v) rest) (is_rising rest) r).0 a))
