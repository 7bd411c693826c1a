-- How many entries a map has after each change of it.
use Rattle.std.proofs.Common.{ℕ, ◌≡◌, ◌≤◌, ◌+◌, ◌==◌, List, [], ◌∷◌, length, Some, refl, arith}
use Rattle.std.proofs.Common.{cond, true, false, Bool, not, nat_lt}
use Rattle.handler_repo.specs.declared.seat.Seat.{Seat}
use Rattle.handler_repo.specs.Seats.{Entry, seat_of, with_entry, with_seat, without_handle}

module _ {H : Type 0} where
  pub length_with_entry : (e : Entry H) (es : List (Entry H))
      → length (with_entry e es) ≡ length es + 1
  length_with_entry e [] = refl
  length_with_entry e (f ∷ es) = one (nat_lt e.handle f.handle) (length_with_entry e es)
    where
      one : (b : Bool) → length (with_entry e es) ≡ length es + 1
          → length (cond b (e ∷ f ∷ es) (f ∷ with_entry e es)) ≡ length (f ∷ es) + 1
      one true n = omega arith
      one false n = omega (arith, n)

  pub length_with_seat : (handle : ℕ) (seat : Seat H) (es : List (Entry H))
      → length (with_seat handle seat es) ≡ length es
  length_with_seat handle seat [] = refl
  length_with_seat handle seat (e ∷ es) = one (e.handle == handle) (length_with_seat handle seat es)
    where
      one : (b : Bool) → length (with_seat handle seat es) ≡ length es
          → length (cond b (record e { seat = seat } ∷ es) (e ∷ with_seat handle seat es))
          ≡ length (e ∷ es)
      one true n = refl
      one false n = omega (arith, n)

  -- what is left is never more
  pub length_without : (handle : ℕ) (es : List (Entry H))
      → length (without_handle handle es) ≤ length es
  length_without handle [] = omega arith
  length_without handle (e ∷ es) = one (not (e.handle == handle)) (length_without handle es)
    where
      one : (b : Bool) → length (without_handle handle es) ≤ length es
          → length (cond b (e ∷ without_handle handle es) (without_handle handle es))
          ≤ length (e ∷ es)
      one true n = omega (arith, n)
      one false n = omega (arith, n)

  -- and less if the handle was there
  pub length_without_there : (handle : ℕ) (seat : Seat H) (es : List (Entry H))
      → seat_of handle es ≡ Some seat → length (without_handle handle es) + 1 ≤ length es
  length_without_there handle seat [] there = absurd (nowhere there)
    where
      nowhere : seat_of handle [] ≡ Some seat → ⊥
      nowhere h = cc
  length_without_there handle seat (e ∷ es) there =
      one (e.handle == handle) (length_without handle es) (length_without_there handle seat es)
      there
    where
      one : (b : Bool) → length (without_handle handle es) ≤ length es
          → (seat_of handle es ≡ Some seat → length (without_handle handle es) + 1 ≤ length es)
          → cond b (Some e.seat) (seat_of handle es) ≡ Some seat
          → length (cond (not b) (e ∷ without_handle handle es) (without_handle handle es)) + 1
          ≤ length (e ∷ es)
      one true n less h = omega (arith, n)
      one false n less h = let m = less h in omega (arith, m)
