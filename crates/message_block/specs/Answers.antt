-- The answers of a queue, and when each comes.
use Rattle.std.specs.Prelude.{◌≡◌, ◌<◌, ◌≤◌, nat_lt, nat_le, Bool, true, false, ◌&&◌, [], ◌∷◌}
use Rattle.message_block.specs.Messages.{QueueState, held_bytes}
use Rattle.message_block.specs.declared.queue.Dequeued.{Dequeued}
use Rattle.message_block.specs.declared.queue.EnqueueRefused.{EnqueueRefused}
use Rattle.message_block.specs.declared.queue.EnqueueRefused.TheVariants as enqueue
use Rattle.message_block.specs.declared.queue.DequeueRefused.{DequeueRefused}
use Rattle.message_block.specs.declared.queue.DequeueRefused.TheVariants as dequeue

-- a queue takes messages: it is active, and it holds fewer bytes than its high mark
pub record TakesMessages (queue : QueueState) : Type 0 where
  pub active : queue.active ≡ true
  pub below : held_bytes queue < queue.high

-- A queue that is not active refuses a message, and so does one that holds as many bytes as its
-- high mark or more, which tells how many. Only one that would take the message can lack the memory
-- for it.
abbrev pub RefusesMessage : QueueState → EnqueueRefused → Type 0
RefusesMessage queue enqueue.Inactive = queue.active ≡ false
RefusesMessage queue (enqueue.Full bytes) =
    (queue.active ≡ true) × (queue.high ≤ bytes) × (bytes ≡ held_bytes queue)
RefusesMessage queue enqueue.NoMemory = TakesMessages queue

-- the bytes were above the low mark and are no more
abbrev pub is_relieved : QueueState → QueueState → Bool
is_relieved old new = nat_lt old.low (held_bytes old) && nat_le (held_bytes new) old.low

-- the first message left an active queue
pub record TakesFirst (old : QueueState) (taken : Dequeued) (new : QueueState) : Type 0 where
  pub active : old.active ≡ true
  pub first : old.messages ≡ taken.message ∷ new.messages
  pub rest : new ≡ record old { messages = new.messages }
  pub relieved : taken.relieved ≡ is_relieved old new

-- a queue that is not active gives none, and neither does an empty one
abbrev pub GivesNone : QueueState → DequeueRefused → Type 0
GivesNone queue dequeue.Inactive = queue.active ≡ false
GivesNone queue dequeue.Empty = (queue.active ≡ true) × (queue.messages ≡ [])
