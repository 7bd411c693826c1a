-- How the messages of a queue stand that is filled by priority alone.
use Rattle.std.specs.Prelude.{◌≡◌, ℕ, ◌==◌, nat_le, true, List, [], ◌∷◌, filter}
use Rattle.std.specs.List.{list_all}
use Rattle.message_block.specs.Messages.{MessageState, filled_by_priority}

-- none is of a higher priority than one before it
abbrev pub FallsByPriority : List MessageState → Type 0
FallsByPriority [] = Unit {0}
FallsByPriority (first ∷ rest) = (list_all (λ later. nat_le later.priority first.priority) rest
    ≡ true) × FallsByPriority rest

-- filled by priority alone, the messages stand by falling priority
abbrev pub FilledFalls : Type 0
FilledFalls = (arrivals : List MessageState) → FallsByPriority (filled_by_priority arrivals)

-- and those of one priority stand in the order in which they came
abbrev pub EqualInOrderOfArrival : Type 0
EqualInOrderOfArrival = (arrivals : List MessageState) (priority : ℕ)
    → filter (λ message. message.priority == priority) (filled_by_priority arrivals)
    ≡ filter (λ message. message.priority == priority) arrivals
