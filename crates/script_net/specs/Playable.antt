-- What holds of every script that can be played.
use Rattle.std.specs.Prelude.{◌≤◌, ◌<◌, ◌+◌, ℕ, List, [], ◌∷◌, length}
use Rattle.ev_base.specs.Story.{Part, Piece, Pausing, Ending, Failing, Offer, Connection, NoneThere}
use Rattle.ev_base.specs.Story.{OneFailure}
use Rattle.ev_base.specs.Terms.{StepEnd, AtListener, AtConnection, Step, Group}
use Rattle.event_script.specs.Grammar.{last_moment}

-- the moments do not go back, from this one on, and none is beyond the last that a script may name
abbrev pub AreInOrder : ℕ → List Group → Type 0
AreInOrder from [] = Unit {0}
AreInOrder from (group ∷ groups) =
    (from ≤ group.moment) × (group.moment ≤ last_moment) × AreInOrder group.moment groups

-- the part is no piece without a byte
abbrev pub IsFilled : Part → Type 0
IsFilled (Piece bytes) = 0 < length bytes
IsFilled Pausing = Unit {0}
IsFilled Ending = Unit {0}
IsFilled Failing = Unit {0}

abbrev pub AreFilled : List Part → Type 0
AreFilled [] = Unit {0}
AreFilled (part ∷ parts) = IsFilled part × AreFilled parts

-- how many connections a listener offers
abbrev pub many_offered : List Offer → ℕ
many_offered [] = 0
many_offered (Connection serial ∷ offers) = many_offered offers + 1
many_offered (NoneThere ∷ offers) = many_offered offers
many_offered (OneFailure ∷ offers) = many_offered offers

-- an end is the listener, or one of so many connections
abbrev pub IsWithin : ℕ → StepEnd → Type 0
IsWithin many AtListener = Unit {0}
IsWithin many (AtConnection serial) = serial < many

-- the steps are at the listener and at so many connections
abbrev pub AreWithin : ℕ → List Step → Type 0
AreWithin many [] = Unit {0}
AreWithin many (step ∷ steps) = IsWithin many step.end × AreWithin many steps

abbrev pub AllWithin : ℕ → List Group → Type 0
AllWithin many [] = Unit {0}
AllWithin many (group ∷ groups) = AreWithin many group.steps × AllWithin many groups

-- how many steps the groups have
abbrev pub many_steps : List Group → ℕ
many_steps [] = 0
many_steps (group ∷ groups) = length group.steps + many_steps groups
