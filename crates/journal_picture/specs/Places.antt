-- Where the mark of each entry belongs: its lane, and where the upcall began that it ends (this
-- project's own).
use Rattle.std.specs.Prelude.{ℕ, ◌+◌, nat_lt, if◌then◌else◌, List, [], ◌∷◌, ◌++◌, length}
use Rattle.std.specs.Prelude.{slice_index, slice_set}
use Rattle.reactor_journal.specs.declared.entry.Entry.{Entry}
use Rattle.reactor_journal.specs.declared.entry.Entry.TheVariants.{Opened, Scheduled, Cancelled}
use Rattle.reactor_journal.specs.declared.entry.Entry.TheVariants.{Polled, Due, Ready, Posted}
use Rattle.reactor_journal.specs.declared.entry.Entry.TheVariants.{Stale, Started, Returned, Masked}
use Rattle.reactor_journal.specs.declared.entry.Entry.TheVariants.{Suspended, Resumed, Refused}
use Rattle.reactor_journal.specs.declared.entry.Entry.TheVariants.{Removed, Closed, Ended}
use Rattle.log_handler.specs.declared.note.ServerNote.{ServerNote}
use Rattle.journal_picture.specs.declared.seen.Place.{Place}

-- What was seen of the entries so far: the lane of each; the number of the last `Started` of each,
-- or its own if there is none; and the lane of each timer, in order of `Scheduled`.
pub record Tables : Type 0 where
  pub lanes : List ℕ
  pub starts : List ℕ
  pub timers : List ℕ

abbrev pub nothing : Tables
nothing = record { lanes = []; starts = []; timers = [] }

-- the number that stands there, or another if there is none
abbrev pub number_at : List ℕ → ℕ → ℕ → ℕ
number_at numbers at other = if nat_lt at (length numbers) then slice_index numbers at else other

-- the lane of a handle; one that was never opened has none of its own, and stands in that of the
-- reactor
abbrev pub lane_for : ℕ → ℕ → ℕ
lane_for handles handle = if nat_lt handle handles then handle + 1 else 0

-- the lane of an entry: that of its handle, of its timer or of its event, and else the reactor's
-- own
abbrev pub lane_in : ℕ → Tables → Entry ServerNote → ℕ
lane_in handles t (Opened handle mask) = lane_for handles handle.0
lane_in handles t (Scheduled timer handle first every) = lane_for handles handle.0
lane_in handles t (Cancelled timer) = number_at t.timers timer 0
lane_in handles t (Polled now) = 0
lane_in handles t (Due timer) = number_at t.timers timer 0
lane_in handles t (Ready handle kind) = lane_for handles handle.0
lane_in handles t (Posted handle kind from seq) = lane_for handles handle.0
lane_in handles t (Stale handle from seq) = lane_for handles handle.0
lane_in handles t (Started event) = number_at t.lanes event 0
lane_in handles t (Returned event answer note) = number_at t.lanes event 0
lane_in handles t (Masked handle mask) = lane_for handles handle.0
lane_in handles t (Suspended handle) = lane_for handles handle.0
lane_in handles t (Resumed handle) = lane_for handles handle.0
lane_in handles t (Refused live fault note) = 0
lane_in handles t (Removed handle) = lane_for handles handle.0
lane_in handles t (Closed handle note) = lane_for handles handle.0
lane_in handles t Ended = 0

-- where a bar to the entry begins: a wait at the event that is started, and an upcall at its
-- `Started`
abbrev pub from_in : Tables → Entry ServerNote → ℕ
from_in t (Started event) = event
from_in t (Returned event answer note) = number_at t.starts event event
from_in t _ = length t.lanes

abbrev pub place_in : ℕ → Tables → Entry ServerNote → Place
place_in handles t e = record {
  number = length t.lanes;
  lane = lane_in handles t e;
  from = from_in t e;
}

-- what was seen with one entry more
abbrev pub timers_with : ℕ → Entry ServerNote → List ℕ → List ℕ
timers_with handles (Scheduled timer handle first every) timers =
    timers ++ lane_for handles handle.0 ∷ []
timers_with handles _ timers = timers

abbrev pub start_set : ℕ → ℕ → List ℕ → List ℕ
start_set event number starts = if nat_lt event (length starts) then slice_set starts event number
    else starts

abbrev pub starts_with : ℕ → Entry ServerNote → List ℕ → List ℕ
starts_with number (Started event) starts = start_set event number starts
starts_with number _ starts = starts

abbrev pub grown : ℕ → Entry ServerNote → Tables → Tables
grown handles e t = record {
  lanes = t.lanes ++ lane_in handles t e ∷ [];
  starts = starts_with (length t.lanes) e t.starts ++ length t.lanes ∷ [];
  timers = timers_with handles e t.timers;
}

-- what was seen of a past, the latest entry first
abbrev pub tables : ℕ → List (Entry ServerNote) → Tables
tables handles [] = nothing
tables handles (e ∷ past) = grown handles e (tables handles past)
