-- What the sources and the sink in memory hold.
use Rattle.std.specs.Prelude.{ℕ, zero, suc, List, [], ◌∷◌, ◌++◌, ◌<◌, length, Vec, Option, Some}
use Rattle.std.specs.Prelude.{None, min, take, drop}
use Rattle.std.specs.declared.alloc.Global.{Global}

-- all bytes of some pieces, in order
abbrev pub joined : List (Vec ℕ Global) → List ℕ
joined [] = []
joined (piece ∷ pieces) = piece.items ++ joined pieces

-- the bytes of the pieces before number `next`, and the first `at` bytes of that one
abbrev pub given_of : ℕ → ℕ → List (Vec ℕ Global) → List ℕ
given_of zero at pieces = take at (joined pieces)
given_of (suc next) at [] = []
given_of (suc next) at (piece ∷ pieces) = piece.items ++ given_of next at pieces

-- the bytes after those
abbrev pub left_of : ℕ → ℕ → List (Vec ℕ Global) → List ℕ
left_of zero at pieces = drop at (joined pieces)
left_of (suc next) at [] = []
left_of (suc next) at (piece ∷ pieces) = left_of next at pieces

-- the room, or the number of bytes after which a sink is to fail, if that is less
abbrev pub least_of : ℕ → Option ℕ → ℕ
least_of room None = room
least_of room (Some fail_after) = min room fail_after

-- there is a byte at this place of this piece, or the number is that of the pieces or above
abbrev pub HasByteAt : List (Vec ℕ Global) → ℕ → ℕ → Type 0
HasByteAt [] next at = Unit {0}
HasByteAt (piece ∷ pieces) zero at = at < length piece.items
HasByteAt (piece ∷ pieces) (suc next) at = HasByteAt pieces next at
