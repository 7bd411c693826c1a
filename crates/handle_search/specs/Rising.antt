-- Lists in rising order of a number.
use Rattle.std.specs.Prelude.{ℕ, ◌≡◌, ◌<◌, List, length, AllPairs}
use Rattle.std.specs.List.{HoldsAt}

-- the numbers rise, so none is there twice
abbrev pub IsRising : {A : Type 0} → (A → ℕ) → List A → Type 0
IsRising number items = AllPairs (λ a b. number a < number b) items

-- an element of number n stands at the place
abbrev pub IsPlaceOf : {A : Type 0} → (A → ℕ) → List A → ℕ → ℕ → Type 0
IsPlaceOf number items n place = (place < length items)
    × HoldsAt (λ item. number item ≡ n) items place
