-- Timers that come forward when one is taken out.
use Rattle.std.proofs.Common.{ℕ, ◌≡◌, ◌≢◌, ◌+◌, ◌-◌, ◌<◌, ◌≤◌, List, ◌∷◌, length, get_or, set, take}
use Rattle.std.proofs.Common.{refl, sym, ap, ◌∙◌, arith, ◌⊎◌, inl, inr, Option, Some}
use Rattle.std.proofs.lemmas.Bool.{cases_eq}
use Rattle.std.proofs.lemmas.Option.{slice_get_within}
use Rattle.std.proofs.lemmas.List.{length-take}
use Rattle.std.specs.List.{slice_get, swap_remove}
use Rattle.std.specs.List.Sorted.{IsPermutation}
use Rattle.timer_queue.specs.declared.timer.Timer.{Timer}
use Rattle.timer_queue.specs.Timers.{AreApart}
use Rattle.timer_queue.proofs.Contents.{head_apart}
use Rattle.timer_queue.proofs.Swaps.{apart_permutation}
use Rattle.timer_wheel.specs.declared.place.Place.{Place}
use Rattle.timer_wheel.specs.Spokes.{timers_of}
use Rattle.timer_wheel.specs.Chains.{linked_places, ComesForward, IsClear}
use Rattle.timer_wheel.proofs.Changes.{slice_get-take, moved_there, stays_there}
use Rattle.timer_wheel.proofs.Steps.{linked_before, length-linked, among_places}

pub forward_linked : (places : List Place) (last to : Option ℕ)
    → ComesForward places (linked_places places last to)
forward_linked places last to k q e = let b = linked_before places last to k q e in
    (k, omega arith, b.0, b.1, b.2)

pub forward_trans : (a b c : List Place) → ComesForward a b → ComesForward b c → ComesForward a c
forward_trans a b c f g k q e =
    let y = g k q e in
    let x = f y.0 y.2 y.3 in
    (x.0, omega (arith, x.1, y.1), x.2, x.3, x.4 ∙ y.4)

pub forward_popped : (places new : List Place) → new ≡ take (length places - 1) places
    → ComesForward places new
forward_popped places new is k q e =
    let f : slice_get (take (length places - 1) places) k ≡ Some q =
    ap (λ ps. slice_get ps k) (sym is) ∙ e in
    let l : k < length (take (length places - 1) places) =
    slice_get_within (take (length places - 1) places) k q f in (
      k,
      omega arith,
      q,
      sym (slice_get-take places (length places - 1) k
          (omega (arith, l, length-take (length places - 1) places))) ∙ f,
      refl,
    )

pub forward_filled : (places new : List Place) (last to : Option ℕ) (hole : ℕ) (d : Place)
    → hole + 1 < length places → new ≡ swap_remove (linked_places places last to) hole d
    → ComesForward places new
forward_filled places new last to hole d l is =
    forward_trans places mid new (forward_linked places last to)
    (λ k q e. at k q e (cases_eq k hole))
  where
    mid : List Place
    mid = linked_places places last to

    m : length mid ≡ length places
    m = length-linked places last to

    n : length new ≤ length mid - 1
    n = omega (
      arith,
      ap length is,
      length-take (length mid - 1)
          (set mid hole (get_or mid (length mid - 1) d)),
    )

    at : (k : ℕ) (q : Place) → slice_get new k ≡ Some q → (k ≡ hole) ⊎ (k ≢ hole) → (i : ℕ)
        × (k ≤ i) × (p : Place) × (slice_get mid i ≡ Some p) × (p.timer ≡ q.timer)
    at k q e (inl same) = (
      length mid - 1,
      omega (arith, m, l, same),
      q,
      sym (moved_there mid hole d (omega (arith, m, l)))
          ∙ ap (slice_get (swap_remove mid hole d)) (sym same) ∙ ap (λ ps. slice_get ps k) (sym is)
          ∙ e,
      refl,
    )
    at k q e (inr ne) = (
      k,
      omega arith,
      q,
      sym (stays_there mid hole k d ne (omega (arith, m, n, slice_get_within new k q e)))
          ∙ ap (λ ps. slice_get ps k) (sym is) ∙ e,
      refl,
    )

-- if a timer leaves the last clear place, those from its place on are clear
pub clear_taken : (handle : ℕ) (places new : List Place) (from : ℕ) (t : Timer) (p : Place)
    → AreApart (timers_of places) → slice_get places from ≡ Some p → p.timer ≡ t
    → IsPermutation (timers_of places) (t ∷ timers_of new) → ComesForward places new
    → IsClear handle places (from + 1) → IsClear handle new from
clear_taken handle places new from t p apart e is perm forward clear k q least at same =
    let x = forward k q at in
    elim (cases_eq x.0 from) [
      | inl here ↦ gone (p.timer) (sym is)
          (ap (λ r. r.timer) (same_place p x.2 e (ap (slice_get places) (sym here) ∙ x.3)) ∙ x.4)
      | inr other ↦ clear x.0 x.2 (omega (arith, x.1, least, other)) x.3
          (ap (λ u. u.handle.0) x.4 ∙ same)
    ]
  where
    same_place : (y z : Place) → slice_get places from ≡ Some y → slice_get places from ≡ Some z
        → y ≡ z
    same_place y z g h = cc

    gone : (u : Timer) → t ≡ u → u ≡ q.timer → ⊥
    gone u a b = head_apart t q.timer (timers_of new)
        (apart_permutation (timers_of places) (t ∷ timers_of new) perm apart)
        (among_places new k q at) (ap (λ v. v.timer) (sym b ∙ sym a))
