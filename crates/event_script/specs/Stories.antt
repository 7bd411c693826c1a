-- What each end has to tell in a script: the table of steps and items (this project's own).
use Rattle.std.specs.Prelude.{ℕ, ◌==◌, Bool, if◌then◌else◌, List, [], ◌∷◌, map, flat_map}
use Rattle.std.specs.List.{list_any, range_with_len}
use Rattle.ev_base.specs.Story.{Part, Piece, Pausing, Ending, Failing, Offer, Connection, NoneThere}
use Rattle.ev_base.specs.Story.{OneFailure, Story, OfParts}
use Rattle.event_script.specs.Script.{ScriptStep, Opens, Brings, Shuts, Fails, ListenerFails, shuts}
use Rattle.event_script.specs.Script.{fails, opened}

-- Of a connection: bytes and then one pause for each step that brings some, the end if it is
-- shut, a failure if it fails. The last two are told from then on.
abbrev pub parts_of : ℕ → ScriptStep → List Part
parts_of c (Brings conn bytes) = if conn == c then Piece bytes ∷ Pausing ∷ [] else []
parts_of c (Shuts conn) = if conn == c then Ending ∷ [] else []
parts_of c (Fails conn) = if conn == c then Failing ∷ [] else []
parts_of c _ = []

abbrev pub story : ℕ → List ScriptStep → List Part
story c steps = flat_map (parts_of c) steps

-- of the listener: each connection that comes and then one pause, and its failures, each told once
abbrev pub offers_of : ScriptStep → List Offer
offers_of (Opens conn) = Connection conn ∷ NoneThere ∷ []
offers_of ListenerFails = OneFailure ∷ []
offers_of _ = []

abbrev pub offers : List ScriptStep → List Offer
offers steps = flat_map offers_of steps

-- the stories of the connections by number, as the terms of a run have them
abbrev pub stories : List ScriptStep → List Story
stories steps = map (λ c. OfParts (story c steps)) (range_with_len 0 (opened steps))

-- the bytes that a connection brings, joined
abbrev pub bytes_brought : ℕ → ScriptStep → List ℕ
bytes_brought c (Brings conn bytes) = if conn == c then bytes else []
bytes_brought c _ = []

abbrev pub bytes_of : ℕ → List ScriptStep → List ℕ
bytes_of c steps = flat_map (bytes_brought c) steps

abbrev pub was_shut : ℕ → List ScriptStep → Bool
was_shut c steps = list_any (shuts c) steps

abbrev pub has_failed : ℕ → List ScriptStep → Bool
has_failed c steps = list_any (fails c) steps
