-- Asynchronous operations, and what a completion handler is told and asks (POSA2, Proactor).
use Rattle.std.specs.Prelude.{◌≤◌, Bool, List, [], ◌∷◌, ◌++◌, length, Option, Some, None}
use Rattle.std.specs.Prelude.{Result, Ok, Err}
use Rattle.ev_base.specs.ev_types.specs.declared.refusal.NoMemory.{NoMemory}
use Rattle.proactor.specs.declared.operation.Op.{Op}
use Rattle.proactor.specs.declared.operation.Op.TheVariants as op
use Rattle.proactor.specs.declared.operation.Ops.{Ops}
use Rattle.proactor.specs.declared.operation.Next.{Next}
use Rattle.proactor.specs.declared.operation.Completed.{Completed}

-- a read asks for 1 to 65,536 bytes, and a write has bytes
abbrev pub IsOp : Op → Type 0
IsOp (op.Read id want) = (1 ≤ want) × (want ≤ 65536)
IsOp (op.Write id bytes) = 1 ≤ length bytes

abbrev pub listed_op : Option Op → List Op
listed_op None = []
listed_op (Some asked) = asked ∷ []

-- the operations that are there, the first first
abbrev pub ops_of : Ops → List Op
ops_of ops = listed_op ops.first ++ listed_op ops.second

abbrev pub IsOpOrNone : Option Op → Type 0
IsOpOrNone None = Unit {0}
IsOpOrNone (Some asked) = IsOp asked

abbrev pub AreOps : Ops → Type 0
AreOps ops = IsOpOrNone ops.first × IsOpOrNone ops.second

-- what a handler was told of one completion, what it asked for then, and whether it was done
pub record Told : Type 0 where
  pub completed : Completed
  pub asked : List Op
  pub done : Bool

abbrev pub told_of : Completed → Next → Told
told_of c next = record { completed = c; asked = ops_of next.ops; done = next.done }

-- it was told of one completion more; and of none if it found no memory
abbrev pub FollowsOn : (List Told → Type 0) → List Told → Completed → Result Next NoMemory → Type 0
FollowsOn follows list c (Ok next) = follows (list ++ told_of c next ∷ [])
FollowsOn follows list c (Err none) = follows list
