-- Lists that are kept in rising order of a number.
use Rattle.std.specs.Prelude.{ℕ, suc, ◌≤◌, ◌<◌, List, [], ◌∷◌}

-- the numbers of the elements rise, from lo on and below hi
abbrev pub RisesIn : {A : Type 0} → (A → ℕ) → ℕ → ℕ → List A → Type 0
RisesIn key lo hi [] = Unit {0}
RisesIn key lo hi (x ∷ xs) = (lo ≤ key x) × (key x < hi) × RisesIn key (suc (key x)) hi xs
