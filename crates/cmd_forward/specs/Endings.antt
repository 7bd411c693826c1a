-- How a run ends, in the code's own store of it.
use Rattle.std.specs.Prelude.{◌≡◌, ℕ, Bool, true, false, List, [], ◌∷◌, ◌++◌, Option, Some, None}
use Rattle.std.specs.Prelude.{IsSome}
use Rattle.ev_base.specs.ev_types.specs.declared.upcall.Answer.{Answer}
use Rattle.connector_run.specs.declared.running.Ended.{Ended}
use Rattle.connector_run.specs.declared.running.Ended.TheVariants as ended
use Rattle.forwarder.specs.connector.specs.declared.note.ConnectNote.{ConnectNote}
use Rattle.forwarder.specs.connector.specs.declared.note.ConnectNote.TheVariants as note
use Rattle.forwarder.specs.declared.note.ForwardEnding.{ForwardEnding}
use Rattle.forwarder.specs.declared.note.ForwardEnding.TheVariants as end
use Rattle.forwarder.specs.declared.note.ForwardNote.{ForwardNote}
use Rattle.reactor_model.specs.reactor_journal.specs.declared.entry.Entry.{Entry}
use Rattle.reactor_model.specs.reactor_journal.specs.declared.entry.Entry.TheVariants.{Returned}
use Rattle.cmd_forward.specs.declared.outcome.Outcome.{Outcome}
use Rattle.cmd_forward.specs.declared.outcome.Outcome.TheVariants as outcome

-- For what the service ended. If its peer failed, that for which it would have ended is told,
-- unless that was the end of the input.
abbrev pub cause_when_failed : Option ForwardEnding → ForwardEnding
cause_when_failed None = end.PeerFailed
cause_when_failed (Some end.End) = end.PeerFailed
cause_when_failed (Some how) = how

abbrev pub cause_of : Option ForwardEnding → ForwardEnding → ForwardEnding
cause_of stop end.PeerFailed = cause_when_failed stop
cause_of stop how = how

-- the status by that, and by whether a read of the input failed; with it the totals
abbrev pub outcome_unless : Bool → Outcome → Outcome
outcome_unless true other = outcome.ReadFault
outcome_unless false other = other

abbrev pub outcome_for : ForwardEnding → Bool → ℕ → ℕ → Outcome
outcome_for end.End failed records bytes = outcome_unless failed (outcome.Done records bytes)
outcome_for (end.BadRecord at) failed records bytes = outcome_unless failed (outcome.BadRecord at)
outcome_for end.ReadFailed failed records bytes = outcome_unless failed outcome.TooLong
outcome_for end.PeerFailed failed records bytes = outcome.PeerFault
outcome_for end.NoMemory failed records bytes = outcome.NoMemory

-- the status by a note of the service that ended, and by that of a connector that closed itself
abbrev pub outcome_ended : Option ForwardEnding → ForwardNote → Bool → Outcome
outcome_ended None said failed = outcome.NoMemory
outcome_ended (Some how) said failed =
    outcome_for (cause_of said.stop how) failed said.records said.bytes

abbrev pub outcome_closed : ConnectNote ForwardNote → Bool → Outcome
outcome_closed note.Failed failed = outcome.PeerFault
outcome_closed (note.TimedOut now) failed = outcome.ConnectTimeout now
outcome_closed (note.Live said) failed = outcome_ended said.ended said failed
outcome_closed _ failed = outcome.NoMemory

-- a connector closes itself with one of these
abbrev pub Closes : ConnectNote ForwardNote → Type 0
Closes note.Failed = Unit {0}
Closes (note.TimedOut now) = Unit {0}
Closes (note.Live said) = IsSome said.ended
Closes _ = ⊥

-- a journal whose last turn noted this, and after it has two entries more
pub record EndsWith (entries : List (Entry (ConnectNote ForwardNote))) : Type 0 where
  pub front : List (Entry (ConnectNote ForwardNote))
  pub event : ℕ
  pub answer : Answer
  pub note : ConnectNote ForwardNote
  pub closed : Entry (ConnectNote ForwardNote)
  pub last : Entry (ConnectNote ForwardNote)
  pub is : entries ≡ front ++ Returned event answer note ∷ closed ∷ last ∷ []
  pub closes : Closes note

-- if a run ended so, the journal ends with a turn in which the connector closed itself
abbrev pub MayEnd : Ended → List (Entry (ConnectNote ForwardNote)) → Type 0
MayEnd ended.Closed entries = EndsWith entries
MayEnd _ entries = Unit {0}

-- the status of a run, by how it ended
abbrev pub HasEnded : Ended → List (Entry (ConnectNote ForwardNote)) → Bool → Outcome → Type 0
HasEnded ended.Closed entries failed told =
    (ends : EndsWith entries) → told ≡ outcome_closed ends.note failed
HasEnded ended.Over entries failed told = told ≡ outcome.Unfinished
HasEnded ended.NetFault entries failed told = told ≡ outcome.NetFault
HasEnded ended.NoMemory entries failed told = told ≡ outcome.NoMemory
