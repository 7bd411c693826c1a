-- How often a number stands in a list.
use Rattle.std.specs.Prelude.{ℕ, ◌+◌, ◌==◌, cond, List, [], ◌∷◌}

-- How often a number stands in a list.
abbrev pub times : ℕ → List ℕ → ℕ
times e [] = 0
times e (x ∷ xs) = cond (e == x) 1 0 + times e xs
