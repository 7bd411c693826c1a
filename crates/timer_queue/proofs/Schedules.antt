-- What filters and one timer more leave of a schedule.
use Rattle.std.proofs.Common.{ℕ, ◌≡◌, ◌+◌, ◌==◌, Bool, true, false, not, ◌&&◌, ◌||◌, List, [], ◌∷◌}
use Rattle.std.proofs.Common.{◌++◌, length, refl, sym, ap, ◌∙◌, arith, cond}
use Rattle.std.proofs.lemmas.Bool.{and_parts, and_from, or_parts, or_from, not-true, ne_eqb}
use Rattle.std.proofs.lemmas.Bool.{eqb-false, cond-true, cond-false}
use Rattle.std.proofs.lemmas.Bool.Decides.{nat_tests}
use Rattle.std.specs.List.{list_any, list_all, filter}
use Rattle.timer_queue.specs.declared.timer.Timer.{Timer}
use Rattle.timer_queue.specs.Timers.{comes_before, is_rising, is_scheduled, names_once, with_timer}
use Rattle.timer_queue.specs.Timers.{without_timer, IsSchedule}

-- ---- filters

module _ {X : Type 0} (p q : X → Bool) where
  pub all_filtered : (xs : List X) → list_all p xs ≡ true → list_all p (filter q xs) ≡ true
  all_filtered [] h = refl
  all_filtered (x ∷ xs) h = step (q x) (and_parts (p x) (list_all p xs) h)
      (all_filtered xs (and_parts (p x) (list_all p xs) h).1)
    where
      step : (b : Bool) → (p x ≡ true) × (list_all p xs ≡ true) → list_all p (filter q xs) ≡ true
          → list_all p (cond b (x ∷ filter q xs) (filter q xs)) ≡ true
      step true k r = and_from (p x) _ k.0 r
      step false k r = r

  pub none_filtered : (xs : List X) → list_any p xs ≡ false → list_any p (filter q xs) ≡ false
  none_filtered [] h = refl
  none_filtered (x ∷ xs) h = step (q x) (or_parts (p x) (list_any p xs) h)
      (none_filtered xs (or_parts (p x) (list_any p xs) h).1)
    where
      step : (b : Bool) → (p x ≡ false) × (list_any p xs ≡ false) → list_any p (filter q xs) ≡ false
          → list_any p (cond b (x ∷ filter q xs) (filter q xs)) ≡ false
      step true k r = or_from (p x) _ k.0 r
      step false k r = r

module _ {X : Type 0} (q : X → Bool) where
  -- a filter that all pass takes nothing
  pub filter_all : (xs : List X) → list_all q xs ≡ true → filter q xs ≡ xs
  filter_all [] h = refl
  filter_all (x ∷ xs) h =
      let k : (q x ≡ true) × (list_all q xs ≡ true) = and_parts (q x) (list_all q xs) h in
      cond-true (q x) (x ∷ filter q xs) (filter q xs) k.0 ∙ ap (λ ys. x ∷ ys) (filter_all xs k.1)

rising_filtered : (q : Timer → Bool) (ts : List Timer) → is_rising ts ≡ true
    → is_rising (filter q ts) ≡ true
rising_filtered q [] h = refl
rising_filtered q (t ∷ ts) h =
    let k : (list_all (λ u. comes_before t u) ts ≡ true) × (is_rising ts ≡ true) =
    and_parts (list_all (λ u. comes_before t u) ts) (is_rising ts) h in
    step (q t) (all_filtered (λ u. comes_before t u) q ts k.0) (rising_filtered q ts k.1)
  where
    step : (b : Bool) → list_all (λ u. comes_before t u) (filter q ts) ≡ true
        → is_rising (filter q ts) ≡ true → is_rising (cond b (t ∷ filter q ts) (filter q ts)) ≡ true
    step true k r = and_from (list_all (λ u. comes_before t u) (filter q ts)) _ k r
    step false k r = r

once_filtered : (q : Timer → Bool) (ts : List Timer) → names_once ts ≡ true
    → names_once (filter q ts) ≡ true
once_filtered q [] h = refl
once_filtered q (t ∷ ts) h =
    let k : (not (is_scheduled t.timer ts) ≡ true) × (names_once ts ≡ true) =
    and_parts (not (is_scheduled t.timer ts)) (names_once ts) h in
    step (q t) (none_filtered (λ u. u.timer == t.timer) q ts (not-true _ k.0))
    (once_filtered q ts k.1)
  where
    step : (b : Bool) → is_scheduled t.timer (filter q ts) ≡ false → names_once (filter q ts) ≡ true
        → names_once (cond b (t ∷ filter q ts) (filter q ts)) ≡ true
    step true k r = and_from (not (is_scheduled t.timer (filter q ts))) _ (ap not k) r
    step false k r = r

-- a filter leaves a schedule
pub schedule_filtered : (q : Timer → Bool) (ts : List Timer) → IsSchedule ts
    → IsSchedule (filter q ts)
schedule_filtered q ts h = record {
  rising = rising_filtered q ts h.rising;
  once = once_filtered q ts h.once;
}

-- what stands after the first timer is a schedule
pub schedule_tail : (t : Timer) (ts : List Timer) → IsSchedule (t ∷ ts) → IsSchedule ts
schedule_tail t ts h = record {
  rising = (and_parts (list_all (λ u. comes_before t u) ts) (is_rising ts) h.rising).1;
  once = (and_parts (not (is_scheduled t.timer ts)) (names_once ts) h.once).1;
}

pub schedule_none : IsSchedule []
schedule_none = record { rising = refl; once = refl }

-- without a number that is not there
pub without_timer-fresh : (number : ℕ) (ts : List Timer) → is_scheduled number ts ≡ false
    → without_timer number ts ≡ ts
without_timer-fresh number ts h = filter_all _ ts (all_others ts h)
  where
    all_others : (us : List Timer) → is_scheduled number us ≡ false
        → list_all (λ t. not (t.timer == number)) us ≡ true
    all_others [] h = refl
    all_others (u ∷ us) h =
        let k : ((u.timer == number) ≡ false) × (is_scheduled number us ≡ false) =
        or_parts (u.timer == number) (is_scheduled number us) h in
        and_from (not (u.timer == number)) _ (ap not k.0) (all_others us k.1)

-- ---- the order

pub before_trans : (a b c : Timer) → comes_before a b ≡ true → comes_before b c ≡ true
    → comes_before a c ≡ true
before_trans a b c h k = grind (arith, nat_tests)

pub before_other : (a b : Timer) → comes_before a b ≡ false → (b.timer == a.timer) ≡ false
    → comes_before b a ≡ true
before_other a b h k = grind (arith, nat_tests)

pub before_not : (a b : Timer) → comes_before a b ≡ true → comes_before b a ≡ false
before_not a b h = grind (arith, nat_tests)

pub all_weaker : (a b : Timer) (ts : List Timer) → comes_before a b ≡ true
    → list_all (λ u. comes_before b u) ts ≡ true → list_all (λ u. comes_before a u) ts ≡ true
all_weaker a b [] h k = refl
all_weaker a b (t ∷ ts) h k =
    let p : (comes_before b t ≡ true) × (list_all (λ u. comes_before b u) ts ≡ true) =
    and_parts (comes_before b t) (list_all (λ u. comes_before b u) ts) k in
    and_from (comes_before a t) (list_all (λ u. comes_before a u) ts) (before_trans a b t h p.0)
    (all_weaker a b ts h p.1)

-- ---- one timer more

all_with : (p : Timer → Bool) (a : Timer) (ts : List Timer) → p a ≡ true → list_all p ts ≡ true
    → list_all p (with_timer a ts) ≡ true
all_with p a [] h k = and_from (p a) true h refl
all_with p a (t ∷ ts) h k = step (comes_before a t) (and_parts (p t) (list_all p ts) k)
    (all_with p a ts h (and_parts (p t) (list_all p ts) k).1)
  where
    step : (b : Bool) → (p t ≡ true) × (list_all p ts ≡ true) → list_all p (with_timer a ts) ≡ true
        → list_all p (cond b (a ∷ t ∷ ts) (t ∷ with_timer a ts)) ≡ true
    step true q r = and_from (p a) (p t && list_all p ts) h (and_from (p t) (list_all p ts) q.0 q.1)
    step false q r = and_from (p t) (list_all p (with_timer a ts)) q.0 r

none_with : (p : Timer → Bool) (a : Timer) (ts : List Timer) → p a ≡ false → list_any p ts ≡ false
    → list_any p (with_timer a ts) ≡ false
none_with p a [] h k = or_from (p a) false h refl
none_with p a (t ∷ ts) h k = step (comes_before a t) (or_parts (p t) (list_any p ts) k)
    (none_with p a ts h (or_parts (p t) (list_any p ts) k).1)
  where
    step : (b : Bool) → (p t ≡ false) × (list_any p ts ≡ false)
        → list_any p (with_timer a ts) ≡ false
        → list_any p (cond b (a ∷ t ∷ ts) (t ∷ with_timer a ts)) ≡ false
    step true q r = or_from (p a) (p t || list_any p ts) h (or_from (p t) (list_any p ts) q.0 q.1)
    step false q r = or_from (p t) (list_any p (with_timer a ts)) q.0 r

rising_with : (a : Timer) (ts : List Timer) → is_scheduled a.timer ts ≡ false → is_rising ts ≡ true
    → is_rising (with_timer a ts) ≡ true
rising_with a [] f h = refl
rising_with a (t ∷ ts) f h =
    let other : ((t.timer == a.timer) ≡ false) × (is_scheduled a.timer ts ≡ false) =
    or_parts (t.timer == a.timer) (is_scheduled a.timer ts) f in
    let k : (list_all (λ u. comes_before t u) ts ≡ true) × (is_rising ts ≡ true) =
    and_parts (list_all (λ u. comes_before t u) ts) (is_rising ts) h in
    step (comes_before a t) refl other k (rising_with a ts other.1 k.1)
  where
    step : (b : Bool) → comes_before a t ≡ b → ((t.timer == a.timer) ≡ false)
        × (is_scheduled a.timer ts ≡ false) → (list_all (λ u. comes_before t u) ts ≡ true)
        × (is_rising ts ≡ true)
        → is_rising (with_timer a ts) ≡ true
        → is_rising (cond b (a ∷ t ∷ ts) (t ∷ with_timer a ts)) ≡ true
    step true is other k r =
        and_from (comes_before a t && list_all (λ u. comes_before a u) ts) _
        (and_from (comes_before a t) _ is (all_weaker a t ts is k.0))
        (and_from (list_all (λ u. comes_before t u) ts) (is_rising ts) k.0 k.1)
    step false is other k r =
        and_from (list_all (λ u. comes_before t u) (with_timer a ts)) _
        (all_with (λ u. comes_before t u) a ts (before_other a t is other.0) k.0) r

once_with : (a : Timer) (ts : List Timer) → is_scheduled a.timer ts ≡ false → names_once ts ≡ true
    → names_once (with_timer a ts) ≡ true
once_with a [] f h = refl
once_with a (t ∷ ts) f h =
    let other : ((t.timer == a.timer) ≡ false) × (is_scheduled a.timer ts ≡ false) =
    or_parts (t.timer == a.timer) (is_scheduled a.timer ts) f in
    let k : (not (is_scheduled t.timer ts) ≡ true) × (names_once ts ≡ true) =
    and_parts (not (is_scheduled t.timer ts)) (names_once ts) h in
    step (comes_before a t) other k (once_with a ts other.1 k.1)
  where
    step : (b : Bool) → ((t.timer == a.timer) ≡ false) × (is_scheduled a.timer ts ≡ false)
        → (not (is_scheduled t.timer ts) ≡ true) × (names_once ts ≡ true)
        → names_once (with_timer a ts) ≡ true
        → names_once (cond b (a ∷ t ∷ ts) (t ∷ with_timer a ts)) ≡ true
    step true other k r =
        and_from (not ((t.timer == a.timer) || is_scheduled a.timer ts)) _
        (ap not (or_from (t.timer == a.timer) _ other.0 other.1))
        (and_from (not (is_scheduled t.timer ts)) (names_once ts) k.0 k.1)
    step false other k r =
        and_from (not (is_scheduled t.timer (with_timer a ts))) _
        (ap not (none_with (λ u. u.timer == t.timer) a ts
        (ne_eqb a.timer t.timer (λ q. eqb-false t.timer a.timer other.0 (sym q)))
        (not-true _ k.0))) r

-- one timer more, of a number that was not there, leaves a schedule
pub schedule_with : (a : Timer) (ts : List Timer) → is_scheduled a.timer ts ≡ false → IsSchedule ts
    → IsSchedule (with_timer a ts)
schedule_with a ts f h = record {
  rising = rising_with a ts f h.rising;
  once = once_with a ts f h.once;
}

-- its place stands between the timers that it does not come before and those that it does
pub with_timer-between : (a : Timer) (front back : List Timer)
    → list_all (λ u. not (comes_before a u)) front ≡ true
    → list_all (λ u. comes_before a u) back ≡ true
    → with_timer a (front ++ back) ≡ front ++ a ∷ back
with_timer-between a [] [] f b = refl
with_timer-between a [] (u ∷ back) f b =
    cond-true (comes_before a u) _ _ (and_parts (comes_before a u)
    (list_all (λ u. comes_before a u) back) b).0
with_timer-between a (t ∷ front) back f b =
    let k : (not (comes_before a t) ≡ true)
    × (list_all (λ u. not (comes_before a u)) front ≡ true) =
    and_parts (not (comes_before a t)) (list_all (λ u. not (comes_before a u)) front) f in
    cond-false (comes_before a t) _ _ (not-true _ k.0)
    ∙ ap (λ us. t ∷ us) (with_timer-between a front back k.1 b)

pub length-with_timer : (a : Timer) (ts : List Timer) → length (with_timer a ts) ≡ length ts + 1
length-with_timer a [] = refl
length-with_timer a (t ∷ ts) = step (comes_before a t) (length-with_timer a ts)
  where
    step : (b : Bool) → length (with_timer a ts) ≡ length ts + 1
        → length (cond b (a ∷ t ∷ ts) (t ∷ with_timer a ts)) ≡ length (t ∷ ts) + 1
    step true e = omega arith
    step false e = omega arith
