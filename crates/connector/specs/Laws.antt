-- What the turns of a connector come to.
use Rattle.std.specs.Prelude.{◌≡◌, ◌+◌, ℕ, Bool, true, false, if◌then◌else◌, List, [], ◌∷◌, ◌++◌}
use Rattle.std.specs.List.{flat_map}
use Rattle.ev_base.specs.ev_types.specs.declared.upcall.Answer.TheVariants.{Keep, Again, Close}
use Rattle.ev_base.specs.ev_types.specs.declared.upcall.Upcall.{Upcall}
use Rattle.ev_base.specs.ev_types.specs.declared.upcall.Upcall.TheVariants.{Output}
use Rattle.reactor_model.specs.reactor_journal.specs.Event.{Item}
use Rattle.reactor_model.specs.reactor_journal.specs.Past.{count}
use Rattle.reactor_model.specs.Turns.{IsTimeout}
use Rattle.connector.specs.declared.note.ConnectNote.{ConnectNote}
use Rattle.connector.specs.declared.note.ConnectNote.TheVariants as note
use Rattle.connector.specs.Connecting.{Progress, Course, at_start, served}

-- whether a note says that the connection is made, and whether a turn notes that
abbrev pub is_made : {N : Type 0} → ConnectNote N → Bool
is_made note.Connected = true
is_made _ = false

abbrev pub makes : {N : Type 0} → Item (ConnectNote N) → Bool
makes item = is_made item.note

-- how many questions a turn of this upcall makes while the connection is not made
abbrev pub questions : Upcall → ℕ
questions Output = 1
questions _ = 0

-- how many turns of output there are up to the one that notes that the connection is made, with it
abbrev pub outputs_until : {N : Type 0} → List (Item (ConnectNote N)) → ℕ
outputs_until [] = 0
outputs_until (item ∷ items) = questions item.upcall
    + (if makes item then 0 else outputs_until items)

-- the turns of the service, by the notes
abbrev pub live_by : {N : Type 0} → Item (ConnectNote N) → ConnectNote N → List (Item N)
live_by item (note.Live said) = served item said ∷ []
live_by item _ = []

abbrev pub live_in : {N : Type 0} → Item (ConnectNote N) → List (Item N)
live_in item = live_by item item.note

-- What a turn notes, after a turn that noted that the connection is made, or after none.
abbrev pub NotesSo : {N : Type 0} → Bool → Item (ConnectNote N) → ConnectNote N → Type 0
NotesSo made item note.Waiting = item.answer ≡ Keep
NotesSo made item note.Connected = (made ≡ false) × (item.upcall ≡ Output) × (item.answer ≡ Again)
NotesSo made item (note.Live said) = made ≡ true
NotesSo made item note.Failed = (made ≡ false) × (item.upcall ≡ Output) × (item.answer ≡ Close)
NotesSo made item (note.TimedOut now) =
    (made ≡ false) × IsTimeout item.upcall × (now ≡ item.moment) × (item.answer ≡ Close)
NotesSo made item note.Shut = ⊥

-- one turn, after these
pub record IsTold {N : Type 0} (before : List (Item (ConnectNote N)))
    (item : Item (ConnectNote N)) : Type 0 where
  pub made : Bool
  pub so_far : count makes before ≡ (if made then 1 else 0)
  pub notes : NotesSo made item item.note
  pub times_out : IsTimeout item.upcall → made ≡ false → item.note ≡ note.TimedOut item.moment

-- The connection is noted as made once at most, and exactly if the last question was answered
-- so; each turn of output up to that one asked once; the turns of the service are those that are
-- noted as live; and each turn notes what it should.
pub record TurnsTellSo {N : Type 0} (had : List (Item (ConnectNote N))) (p : Progress N) : Type 0
  where
    pub once : count makes had ≡ (if p.connected then 1 else 0)
    pub asks : p.tries ≡ outputs_until had
    pub live : p.live ≡ flat_map live_in had
    pub each : (before behind : List (Item (ConnectNote N))) (item : Item (ConnectNote N))
        → had ≡ before ++ item ∷ behind → IsTold before item

abbrev pub TurnsTell : Type 0 → Type 0
TurnsTell N = (had : List (Item (ConnectNote N))) (p : Progress N) → Course at_start had p
    → TurnsTellSo had p
