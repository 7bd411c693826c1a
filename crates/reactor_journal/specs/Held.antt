-- What a growing list holds, as contracts see it.
use Rattle.std.specs.Prelude.{ℕ, List}

-- the entries in order, and for how many more there is room
pub record Held (A : Type 0) : Type 0 where
  pub entries : List A
  pub spare : ℕ
