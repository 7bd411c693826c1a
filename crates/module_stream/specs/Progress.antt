-- How far a task has come. What a task does is what it gives for a list of messages that is put
-- from now on and then finished.
use Rattle.std.specs.Prelude.{◌≡◌, Bool, false, List, ◌++◌}
use Rattle.message_block.specs.Messages.{MessageState}
use Rattle.module_stream.specs.Composition.{Comes}

abbrev pub Gives : Type 0
Gives = List MessageState → List MessageState

-- the first list begins the second
abbrev pub Begins : List MessageState → List MessageState → Type 0
Begins front whole = (rest : List MessageState) × (whole ≡ front ++ rest)

-- what came out begins what the task gives for what was put, whatever more is put
abbrev pub ComesFirst : Gives → List MessageState → List MessageState → Type 0
ComesFirst gives put out = (more : List MessageState) → Begins out (gives (put ++ more))

-- These messages were put into a task, and these came out. Unless a message was lost for want of
-- memory, the changed task gives the rest.
pub record Progress (gives : Gives) (put out : List MessageState) (lost : Bool)
    (rest : Gives) : Type 0 where
  pub comes : lost ≡ false → Comes gives put out rest
  pub first : ComesFirst gives put out
