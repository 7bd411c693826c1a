-- Values that are held one after another, each with the number of its place. A place leads to the
-- index at which its value is held; if it has none, what it leads to is the value of another
-- place, or nothing.
use Rattle.std.specs.Prelude.{ℕ, ◌≡◌, ◌+◌, ◌==◌, Bool, false, List, [], ◌∷◌, Option, Some, None}
use Rattle.std.specs.Prelude.{if◌then◌else◌}
use Rattle.std.specs.List.{slice_get}

module _ {V : Type 0} where
  -- whether it is the value of the place of this number
  abbrev pub is_own : ℕ → Option (ℕ × V) → Bool
  is_own number None = false
  is_own number (Some held) = held.0 == number

  abbrev pub own : ℕ → Option (ℕ × V) → Option V
  own number None = None
  own number (Some held) = if held.0 == number then Some held.1 else None

  -- the values of the places that lead to these indices, if the first place has this number
  abbrev pub values_from : List (ℕ × V) → ℕ → List ℕ → List (Option V)
  values_from held number [] = []
  values_from held number (lead ∷ leads) =
      own number (slice_get held lead) ∷ values_from held (number + 1) leads

  -- the place of each value leads to it
  pub record IsLed (leads : List ℕ) (held : List (ℕ × V)) : Type 0 where
    pub led : (index : ℕ) (h : ℕ × V) → slice_get held index ≡ Some h
        → slice_get leads h.0 ≡ Some index
