-- The bytes that messages hold together.
use Rattle.std.proofs.Common.{◌≡◌, ℕ, zero, suc, ◌+◌, List, [], ◌∷◌, ◌++◌, length, arith}
use Rattle.std.specs.Prelude.{insert}
use Rattle.message_block.specs.Messages.{MessageState, bytes_of, held_in}

pub held_in-push : (xs : List MessageState) (m : MessageState)
    → held_in (xs ++ m ∷ []) ≡ held_in xs + length (bytes_of m)
held_in-push [] m = omega arith
held_in-push (x ∷ xs) m = omega (arith, held_in-push xs m)

pub held_in-insert : (xs : List MessageState) (place : ℕ) (m : MessageState)
    → held_in (insert xs place m) ≡ held_in xs + length (bytes_of m)
held_in-insert [] zero m = omega arith
held_in-insert [] (suc place) m = omega arith
held_in-insert (x ∷ xs) zero m = omega arith
held_in-insert (x ∷ xs) (suc place) m = omega (arith, held_in-insert xs place m)
