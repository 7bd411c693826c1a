-- The bytes that a reader gave and has left, if it tells them: an object in memory does, a
-- socket or a terminal does not.
use Rattle.std.specs.Prelude.{◌≡◌, ℕ, List, [], ◌++◌, Option, Some, None}

pub record ReaderBytes : Type 0 where
  -- all bytes given so far, in order
  pub given : List ℕ
  -- those that are still to come
  pub left : List ℕ

-- if the bytes are told, these bytes were the next and are given now
abbrev pub MovesOn : Option ReaderBytes → List ℕ → Option ReaderBytes → Type 0
MovesOn None bytes None = Unit {0}
MovesOn None bytes (Some new) = ⊥
MovesOn (Some old) bytes None = ⊥
MovesOn (Some old) bytes (Some new) =
    (old.left ≡ bytes ++ new.left) × (new.given ≡ old.given ++ bytes)

-- if the bytes are told, none is left
abbrev pub NothingLeft : Option ReaderBytes → Type 0
NothingLeft None = Unit {0}
NothingLeft (Some bytes) = bytes.left ≡ []

-- if the bytes are told, all of them, given and left, are these
abbrev pub HasBytes : Option ReaderBytes → List ℕ → Type 0
HasBytes None all = Unit {0}
HasBytes (Some bytes) all = all ≡ bytes.given ++ bytes.left

-- if the bytes are told, those given so far are these
abbrev pub HasGiven : Option ReaderBytes → List ℕ → Type 0
HasGiven None given = Unit {0}
HasGiven (Some bytes) given = bytes.given ≡ given
