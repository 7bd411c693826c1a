-- What waits to be sent: the rest of the message that is being sent, and the messages of the queue
-- (C++NPv2 chapter 6: `ACE_Message_Queue`).
use Rattle.std.specs.Prelude.{◌≡◌, ◌≤◌, ℕ, ◌+◌, ◌==◌, Bool, true, List, [], ◌∷◌, ◌++◌, drop}
use Rattle.std.specs.Prelude.{length, Option, Some, None}
use Rattle.std.specs.List.{list_all}
use Rattle.message_block.specs.Messages.{MessageState, QueueState, bytes_of, held_bytes}

-- the bytes of messages, in order
abbrev pub message_bytes : List MessageState → List ℕ
message_bytes [] = []
message_bytes (message ∷ messages) = bytes_of message ++ message_bytes messages

-- the bytes of the message that is being sent
abbrev pub front_bytes : Option MessageState → List ℕ
front_bytes None = []
front_bytes (Some message) = bytes_of message

-- the rest of it from a place on
abbrev pub front_rest : Option MessageState → ℕ → List ℕ
front_rest front at = drop at (front_bytes front)

abbrev pub waiting_by : Option MessageState → ℕ → QueueState → List ℕ
waiting_by front at queue = front_rest front at ++ message_bytes queue.messages

-- How many bytes a queue holds at most: one less than its high mark, and the longest spelling of a
-- record.
abbrev pub most_held : ℕ
most_held = 16383 + 65568

-- a message has one block
abbrev pub is_single : MessageState → Bool
is_single message = length message.blocks == 1

abbrev pub are_single : List MessageState → Bool
are_single messages = list_all is_single messages

abbrev pub is_single_or_none : Option MessageState → Bool
is_single_or_none None = true
is_single_or_none (Some message) = is_single message

-- what waits: all its bytes, and how many of them the queue holds
pub record SendingState : Type 0 where
  pub waiting : List ℕ
  pub held : ℕ

abbrev pub sending_by : Option MessageState → ℕ → QueueState → SendingState
sending_by front at queue =
    record { waiting = waiting_by front at queue; held = held_bytes queue }

-- The queue is active and has the usual mark, and at most one message, which is not empty: that of
-- the last read. While it has that, the message before was sent whole. Each message has one block.
pub record IsSending (front : Option MessageState) (at : ℕ) (queue : QueueState) : Type 0 where
  pub active : queue.active ≡ true
  pub high : queue.high ≡ 16384
  pub few : held_bytes queue ≤ most_held
  pub one : length queue.messages ≤ 1
  pub filled : length queue.messages ≤ held_bytes queue
  pub within : at ≤ length (front_bytes front)
  pub sent : 1 ≤ length queue.messages → at ≡ length (front_bytes front)
  pub single : are_single queue.messages ≡ true
  pub front_single : is_single_or_none front ≡ true
