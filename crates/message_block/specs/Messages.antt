-- Blocks, messages and queues as contracts see them (C++NPv2 chapter 6: `ACE_Message_Block`,
-- `ACE_Message_Queue`).
use Rattle.std.specs.Prelude.{ℕ, nat_lt, Bool, if◌then◌else◌, List, [], ◌∷◌, length, ◌+◌, fold}
use Rattle.std.specs.Prelude.{flat_map}
use Rattle.std.specs.List.{list_all}

-- a block: the bytes between its read place and its write place, and for how many more it has space
pub record BlockState : Type 0 where
  pub bytes : List ℕ
  pub space : ℕ

-- a block of these bytes, without space
abbrev pub block_of : List ℕ → BlockState
block_of bytes = record { bytes = bytes; space = 0 }

-- a message: its priority, and its blocks in order
pub record MessageState : Type 0 where
  pub priority : ℕ
  pub blocks : List BlockState

-- the bytes of blocks, joined
abbrev pub bytes_in : List BlockState → List ℕ
bytes_in blocks = flat_map (λ block. block.bytes) blocks

-- the bytes of a message are those of its blocks, joined
abbrev pub bytes_of : MessageState → List ℕ
bytes_of message = bytes_in message.blocks

-- a queue: its messages in order, its high and its low mark in bytes, and whether it is active
pub record QueueState : Type 0 where
  pub messages : List MessageState
  pub high : ℕ
  pub low : ℕ
  pub active : Bool

-- the bytes of all messages of a queue
abbrev pub held_in : List MessageState → ℕ
held_in [] = 0
held_in (message ∷ messages) = length (bytes_of message) + held_in messages

abbrev pub held_bytes : QueueState → ℕ
held_bytes queue = held_in queue.messages

-- a message is of a lower priority than this
abbrev pub is_below : ℕ → MessageState → Bool
is_below priority message = nat_lt message.priority priority

-- A message put by its priority stands directly after the last one of equal or higher priority,
-- and at the head if all that are there are of lower priority.
abbrev pub put_by_priority : MessageState → List MessageState → List MessageState
put_by_priority message [] = message ∷ []
put_by_priority message (first ∷ rest) =
    if list_all (is_below message.priority) (first ∷ rest) then message ∷ first ∷ rest
    else first ∷ put_by_priority message rest

-- what a queue holds after these messages were put by priority, in this order
abbrev pub filled_by_priority : List MessageState → List MessageState
filled_by_priority arrivals = fold (λ messages message. put_by_priority message messages) []
    arrivals
