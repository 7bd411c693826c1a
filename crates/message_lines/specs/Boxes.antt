-- What came back through a line.
use Rattle.std.specs.Prelude.{◌≡◌, ◌≤◌, ◌+◌, ◌⊎◌, Bool, true, false, List, [], ◌∷◌, ◌++◌, map}
use Rattle.std.specs.Prelude.{flat_map, vec_len, vec_capacity}
use Rattle.message_block.specs.Messages.{MessageState}
use Rattle.message_lines.specs.declared.line.Item.{Item}
use Rattle.message_lines.specs.declared.line.Item.TheVariants.{One, Many, Stop}
use Rattle.message_lines.specs.declared.inbox.Inbox.{Inbox}

-- messages as they go through a line
abbrev pub ones : List MessageState → List Item
ones messages = map One messages

-- what goes through a line, message by message
abbrev pub each_of : Item → List Item
each_of (One message) = One message ∷ []
each_of (Many batch) = ones batch.messages.items
each_of Stop = Stop ∷ []

abbrev pub singly : List Item → List Item
singly items = flat_map each_of items

-- the end of what goes through a line, once it was sent
abbrev pub stop_if : Bool → List Item
stop_if true = Stop ∷ []
stop_if false = []

-- what was got through a line, message by message: the messages that were answered, those in the
-- inbox, those that were dropped for want of memory, and then the end, if it came
pub record IsIn (got : List Item) (answered : List MessageState) (inbox : Inbox) : Type 0 where
  pub dropped : List MessageState
  pub none : inbox.lost ≡ false → dropped ≡ []
  pub all : got ≡ ones ((answered ++ inbox.messages.items) ++ dropped) ++ stop_if inbox.over

-- whatever item comes next is kept: there are places for as many messages as go together, or
-- nothing is held, and there is a place for one
abbrev pub HasRoom : Inbox → Type 0
HasRoom inbox = (vec_len inbox.messages + 256 ≤ vec_capacity inbox.messages)
    ⊎ ((inbox.messages.items ≡ []) × (1 ≤ vec_capacity inbox.messages))
