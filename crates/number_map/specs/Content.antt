-- What a contract sees of a map from numbers: its entries in the order of their numbers, as those
-- of an ordered map.
use Rattle.std.specs.Prelude.{ℕ, ◌≡◌, ◌+◌, List, [], ◌∷◌, Option, Some, None, if◌then◌else◌}
use Rattle.std.specs.BTreeMap.{is_at}
use Rattle.std.specs.Map.{lookup}
use Rattle.std.specs.Ordering.{nat_cmp}

pub record Content (V : Type 0) : Type 0 where
  pub entries : List (ℕ × V)

module _ {V : Type 0} where
  -- the values of these places, each with its number, if the first place has this number
  abbrev pub entries_from : ℕ → List (Option V) → List (ℕ × V)
  entries_from number [] = []
  entries_from number (None ∷ rest) = entries_from (number + 1) rest
  entries_from number (Some value ∷ rest) = (number, value) ∷ entries_from (number + 1) rest

  -- the value of a number
  abbrev pub found : Content V → ℕ → Option V
  found m number = lookup (is_at (nat_cmp number)) m.entries

  -- the new map has this at the number, and at each other number what the old one had
  abbrev pub Updates : Content V → Content V → ℕ → Option V → Type 0
  Updates old new number value = ((q : ℕ)
      → found new q ≡ (if is_at (nat_cmp number) q then value else found old q))
      × (found new number ≡ value)
