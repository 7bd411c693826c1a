-- A chain that is changed after one place.
use Rattle.std.proofs.Common.{ℕ, zero, suc, ◌≡◌, ◌≢◌, ◌<◌, ◌==◌, true, false, not, ◌||◌, List, []}
use Rattle.std.proofs.Common.{◌∷◌, ◌++◌, length, get_or, set, refl, sym, ap, ◌∙◌, subst, inl, inr}
use Rattle.std.proofs.Common.{Option, Some, None}
use Rattle.std.proofs.lemmas.Bool.{and_parts, and_from, or_parts, not-true, both_ways, eq-eqb}
use Rattle.std.proofs.lemmas.List.{get_or-set_same, get_or-set_other}
use Rattle.std.proofs.lemmas.List.Folds.{list_any-append}
use Rattle.std.specs.List.{slice_get}
use Rattle.timer_queue.specs.declared.timer.Timer.{Timer}
use Rattle.timer_queue.specs.Timers.{is_scheduled, names_once}
use Rattle.timer_queue.proofs.Members.{Among, any_among}
use Rattle.timer_wheel.specs.declared.place.Place.{Place}
use Rattle.timer_wheel.specs.Spokes.{Follows}
use Rattle.timer_wheel.specs.Chains.{Reaches, IsLast, linked_heads, linked_places, with_next}
use Rattle.timer_wheel.proofs.Walks.{reaches_more}

-- ---- members

pub among_left : (t : Timer) (front back : List Timer) → Among t front → Among t (front ++ back)
among_left t [] back h = absurd h
among_left t (u ∷ front) back (inl e) = inl e
among_left t (u ∷ front) back (inr h) = inr (among_left t front back h)

pub among_right : (t : Timer) (front back : List Timer) → Among t back → Among t (front ++ back)
among_right t [] back h = h
among_right t (u ∷ front) back h = inr (among_right t front back h)

-- no timer stands in two parts of a list that names each once
pub one_part : (front back : List Timer) (t : Timer) → names_once (front ++ back) ≡ true
    → Among t front → Among t back → ⊥
one_part [] back t h a b = absurd a
one_part (u ∷ front) back t h (inl e) b =
    let p : (not (is_scheduled u.timer (front ++ back)) ≡ true)
    × (names_once (front ++ back) ≡ true) =
    and_parts (not (is_scheduled u.timer (front ++ back))) (names_once (front ++ back)) h in
    both_ways _ (not-true _ p.0) (any_among (λ v. v.timer == u.timer) t (front ++ back)
    (among_right t front back b) (eq-eqb _ _ (ap (λ v. v.timer) (sym e))))
one_part (u ∷ front) back t h (inr a) b =
    one_part front back t (and_parts (not (is_scheduled u.timer (front ++ back)))
    (names_once (front ++ back)) h).1 a b

pub once_front : (front back : List Timer) → names_once (front ++ back) ≡ true
    → names_once front ≡ true
once_front [] back h = refl
once_front (u ∷ front) back h =
    let p : (not (is_scheduled u.timer (front ++ back)) ≡ true)
    × (names_once (front ++ back) ≡ true) =
    and_parts (not (is_scheduled u.timer (front ++ back))) (names_once (front ++ back)) h in
    let none : (is_scheduled u.timer front || is_scheduled u.timer back) ≡ false =
    sym (list_any-append (λ v. v.timer == u.timer) front back) ∙ not-true _ p.0 in
    and_from (not (is_scheduled u.timer front)) (names_once front)
    (ap not (or_parts (is_scheduled u.timer front) (is_scheduled u.timer back) none).0)
    (once_front front back p.1)

-- ---- places that stay

pub reaches_kept : (places new : List Place) (at : Option ℕ) (front : List Timer) (there : Option ℕ)
    → Reaches places at front there
    → ((k : ℕ) (p : Place) → slice_get places k ≡ Some p → Among p.timer front
    → slice_get new k ≡ Some p) → Reaches new at front there
reaches_kept places new at [] there h kept = h
reaches_kept places new at (t ∷ front) there h kept = (
  h.0,
  h.1,
  h.2,
  kept h.0 h.2 h.3 (inl (sym h.4)),
  h.4,
  reaches_kept places new h.2.next front there h.5 (λ k p e a. kept k p e (inr a)),
)

pub follows_kept : (places new : List Place) (at : Option ℕ) (timers : List Timer)
    → Follows places at timers
    → ((k : ℕ) (p : Place) → slice_get places k ≡ Some p → Among p.timer timers
    → slice_get new k ≡ Some p) → Follows new at timers
follows_kept places new at [] h kept = h
follows_kept places new at (t ∷ timers) h kept = (
  h.0,
  h.1,
  h.2,
  kept h.0 h.2 h.3 (inl (sym h.4)),
  h.4,
  follows_kept places new h.2.next timers h.5 (λ k p e a. kept k p e (inr a)),
)

pub follows_on : (places : List Place) (at : Option ℕ) (front back : List Timer) (there : Option ℕ)
    → Reaches places at front there → Follows places there back → Follows places at (front ++ back)
follows_on places at [] back there h k = subst (λ a. Follows places a back) (sym h) k
follows_on places at (t ∷ front) back there h k =
    (h.0, h.1, h.2, h.3, h.4, follows_on places h.2.next front back there h.5 k)

-- ---- one change

slice_get-set_same : (xs : List Place) (q : ℕ) (x p : Place) → slice_get xs q ≡ Some p
    → slice_get (set xs q x) q ≡ Some x
slice_get-set_same [] q x p h = absurd (cc)
slice_get-set_same (y ∷ xs) zero x p h = refl
slice_get-set_same (y ∷ xs) (suc q) x p h = slice_get-set_same xs q x p h

slice_get-set_other : (xs : List Place) (q k : ℕ) (x : Place) → k ≢ q
    → slice_get (set xs q x) k ≡ slice_get xs k
slice_get-set_other [] q k x ne = refl
slice_get-set_other (y ∷ xs) zero zero x ne = absurd (ne refl)
slice_get-set_other (y ∷ xs) zero (suc k) x ne = refl
slice_get-set_other (y ∷ xs) (suc q) zero x ne = refl
slice_get-set_other (y ∷ xs) (suc q) (suc k) x ne =
    slice_get-set_other xs q k x (λ e. ne (ap suc e))

-- the way over `front` leads to another place, and each place whose timer it does not pass stays
pub record Relinked (places new : List Place) (head : Option ℕ) (front : List Timer)
    (to : Option ℕ) : Type 0 where
  pub reaches : Reaches new head front to
  pub others : (k : ℕ) (p : Place) → slice_get places k ≡ Some p → (Among p.timer front → ⊥)
      → slice_get new k ≡ Some p

pub head_at : (heads : List (Option ℕ)) (spoke other : ℕ) (last to : Option ℕ) → other ≢ spoke
    → get_or (linked_heads heads spoke last to) other None ≡ get_or heads other None
head_at heads spoke other None to ne = get_or-set_other heads spoke other to None ne
head_at heads spoke other (Some q) to ne = refl

pub relinked : (places : List Place) (heads : List (Option ℕ)) (spoke : ℕ) (front : List Timer)
    (last to : Option ℕ) → spoke < length heads → names_once front ≡ true
    → IsLast places (get_or heads spoke None) front last
    → Relinked places (linked_places places last to)
    (get_or (linked_heads heads spoke last to) spoke None) front to
relinked places heads spoke front None to l once h = record {
  reaches = subst (λ f. Reaches places (get_or (set heads spoke to) spoke None) f to) (sym h)
      (get_or-set_same heads spoke to None l);
  others = λ k p e out. e;
}
relinked places heads spoke front (Some q) to l once h =
    let before = h.0 in
    let p = h.1 in
    let is : with_next places q to (slice_get places q) ≡ set places q (record p { next = to }) =
    ap (with_next places q to) h.3 in
    let once' : names_once (before ++ p.timer ∷ []) ≡ true = ap names_once (sym h.2) ∙ once in
    subst (λ ps. Relinked places ps (get_or heads spoke None) front to) (sym is) (record {
      reaches = subst (λ f. Reaches (set places q (record p { next = to }))
          (get_or heads spoke None) f to) (sym h.2)
          (reaches_more (set places q (record p { next = to })) (get_or heads spoke None) before q
          (record p { next = to })
          (reaches_kept places (set places q (record p { next = to })) (get_or heads spoke None)
          before (Some q) h.4
          (λ k x e a. slice_get-set_other places q k (record p { next = to })
          (λ same. one_part before (p.timer ∷ []) p.timer once'
          (subst (λ t. Among t before) (same_timer k x p same e h.3) a) (inl refl)) ∙ e))
          (slice_get-set_same places q (record p { next = to }) p h.3));
      others = λ k x e out. slice_get-set_other places q k (record p { next = to })
          (λ same. out (subst (λ f. Among x.timer f) (sym h.2)
          (among_right x.timer before (p.timer ∷ []) (inl (sym (same_timer k x p same e h.3))))))
          ∙ e;
    })
  where
    same_timer : (k : ℕ) (x p : Place) → k ≡ q → slice_get places k ≡ Some x
        → slice_get places q ≡ Some p → x.timer ≡ p.timer
    same_timer k x p same a b = ap (λ v. v.timer)
        (same_place x p (ap (slice_get places) (sym same) ∙ a) b)
      where
        same_place : (x y : Place) → slice_get places q ≡ Some x → slice_get places q ≡ Some y
            → x ≡ y
        same_place x y a b = cc
