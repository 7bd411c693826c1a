-- The completion handler of an echo service.
use Rattle.std.specs.Prelude.{◌++◌, ◌≡◌, ℕ, Bool, true, false, List, [], ◌∷◌, Option, Some, None}
use Rattle.std.specs.List.{AllByRecursion}
use Rattle.proactor.specs.declared.operation.Op.{Op}
use Rattle.proactor.specs.declared.operation.Op.TheVariants as op
use Rattle.proactor.specs.declared.operation.Outcome.{Outcome}
use Rattle.proactor.specs.declared.operation.Outcome.TheVariants as outcome
use Rattle.proactor.specs.Account.{finds_over}
use Rattle.proactor.specs.Events.{Event, given, some_of, taken}
use Rattle.proactor.specs.Operations.{Told, listed_op}

-- what an end over it begins with: a read of at most 4,096 bytes
abbrev pub first_read : Op
first_read = op.Read 0 4096

-- what it asks for after a read that gave these bytes: a write of them
abbrev pub back_of : List ℕ → Op
back_of [] = first_read
back_of (x ∷ xs) = op.Write 1 (x ∷ xs)

-- what it asks for after a completion, and whether it is done
abbrev pub next_of : Outcome → Option Op
next_of (outcome.Read bytes) = Some (back_of bytes)
next_of outcome.Wrote = Some first_read
next_of _ = None

abbrev pub is_done : Outcome → Bool
is_done outcome.Over = true
is_done _ = false

-- it was told of a completion, and asked so
pub record IsEcho (item : Told) : Type 0 where
  pub asked : item.asked ≡ listed_op (next_of item.completed.outcome)
  pub done : item.done ≡ is_done item.completed.outcome

pub record FollowsEcho (first : Op) (list : List Told) : Type 0 where
  pub reads : first ≡ first_read
  pub echoes : AllByRecursion IsEcho list

-- The bytes that were given to the end are a front of those that were taken from it, in order; and
-- all of them, if a read found the end of its input.
pub record WritesBack (all : List Event) : Type 0 where
  pub waiting : List ℕ
  pub back : taken all ≡ given all ++ waiting
  pub all_back : some_of finds_over all ≡ true → waiting ≡ []
