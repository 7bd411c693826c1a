-- The journal of a run of the command `one`.
use Rattle.std.specs.Prelude.{◌≡◌, ◌≢◌, ◌≤◌, ◌⊎◌, ◌+◌, ℕ, Bool, true, false, List, [], ◌∷◌, ◌++◌}
use Rattle.std.specs.Prelude.{length, drop, Option, Some, None}
use Rattle.std.specs.List.{count_by}
use Rattle.ev_base.specs.Source.{SourceFacts}
use Rattle.ev_base.specs.Sink.{SinkFacts}
use Rattle.reactor_model.specs.reactor_journal.specs.declared.entry.Entry.{Entry}
use Rattle.reactor_model.specs.reactor_journal.specs.declared.entry.Entry.TheVariants as entry
use Rattle.reactor_model.specs.reactor_journal.specs.Past.{past_of, opened, was_closed, all_below}
use Rattle.reactor_model.specs.reactor_journal.specs.Past.{ended, count}
use Rattle.reactor_model.specs.reactor_journal.specs.Follow.{Legal}
use Rattle.reactor_core.specs.reactor_summary.specs.Tells.{is_refused}
use Rattle.reactor_model.specs.Volumes.{VolumesFacts}
use Rattle.log_handler.specs.declared.note.ServerNote.{ServerNote}
use Rattle.log_handler.specs.Notes.{journal_lines}
use Rattle.log_handler.specs.sink_buffer.specs.Written.{IsPrefixOf, TookAll, TookFront}
use Rattle.one_run.specs.Phases.{first_entry, served_until_end, is_return}
use Rattle.cmd_one.specs.Outcome.{ComesTo, EndsAsRead}

-- the entries that volumes tell that they took in a run, and those that are held
abbrev pub IsTakenAndHeld : {N : Type 0} → Option (List (Entry N)) → Option (List (Entry N))
    → List (Entry N) → List (Entry N) → Type 0
IsTakenAndHeld (Some before) (Some after) held journal =
    journal ≡ drop (length before) after ++ held
IsTakenAndHeld (Some before) None held journal = ⊥
IsTakenAndHeld None after held journal = ⊥

-- The journal of a run is told if the volumes tell what they took, before the run and after it;
-- and if nothing was handed over, so that all entries are held.
abbrev pub IsTold : VolumesFacts ServerNote → VolumesFacts ServerNote → ℕ → List (Entry ServerNote)
    → List (Entry ServerNote) → Type 0
IsTold v w first held journal = IsTakenAndHeld v.taken w.taken held journal
    ⊎ ((first ≡ 0) × (journal ≡ held))

-- So many entries were handed over to the volumes in a run, if they tell what they took.
abbrev pub AreHandedOver : {N : Type 0} → Option (List (Entry N)) → Option (List (Entry N)) → ℕ
    → Type 0
AreHandedOver (Some before) (Some after) first = length after ≡ length before + first
AreHandedOver (Some before) None first = Unit {0}
AreHandedOver None after first = Unit {0}

-- The journal is legal for one live handler, the reactor was stopped, and every handle that was
-- opened was closed.
pub record IsWholeRun (journal : List (Entry ServerNote)) : Type 0 where
  pub legal : Legal journal 1
  pub stopped : ended (past_of journal) ≡ true
  pub closed : all_below (opened (past_of journal)) (was_closed (past_of journal)) ≡ true

-- The one connection was opened on handle 0, to be read; until the end there are only waits,
-- reports, upcalls and closings; and no handler was refused.
pub record ServesOne (journal : List (Entry ServerNote)) : Type 0 where
  pub served : List (Entry ServerNote)
  pub is : journal ≡ first_entry ∷ served
  pub kinds : served_until_end served ≡ true
  pub none_refused : count is_refused (past_of journal) ≡ 0

-- no connection was opened, so the input was not read: there was no memory, or a write failed
pub record OpensNothing (i j : SourceFacts) (code : ℕ) (journal : List (Entry ServerNote)) : Type 0
  where
    pub entries : (journal ≡ []) ⊎ (journal ≡ entry.Ended ∷ [])
    pub bytes : j.bytes ≡ i.bytes
    pub gave : j.gave ≡ i.gave
    pub faults : j.faults ≡ i.faults
    pub code_is : (code ≡ 4) ⊎ (code ≡ 6)

-- The connection was served until it was closed. With status 0 it closed itself where reading
-- stops; a read failed with status 3 and no other; and with status 11 a byte was met past the
-- limit.
pub record ServesConnection (limit : ℕ) (i j : SourceFacts) (code : ℕ)
    (journal : List (Entry ServerNote)) : Type 0 where
  pub one : ServesOne journal
  pub failed : Bool
  pub run : ComesTo limit failed i j journal
  pub done : code ≡ 0 → EndsAsRead run
  pub read_fault : code ≡ 3 → failed ≡ true
  pub no_read_fault : code ≢ 3 → failed ≡ false
  pub too_long : code ≡ 11 → run.extra ≢ []

-- All lines of the entries before the return of the last upcall, or before what follows that, are
-- in the text that was written.
pub record WroteUntilLast (journal : List (Entry ServerNote)) (text : List ℕ) : Type 0 where
  pub before : List (Entry ServerNote)
  pub rest : List (Entry ServerNote)
  pub is : journal ≡ before ++ rest
  pub few : count_by is_return rest ≤ 1
  pub written : IsPrefixOf (journal_lines before) text

-- A front of the journal's lines was written, and the run made no upcall more once a write had
-- failed.
abbrev pub BreaksLate : SinkFacts → List (Entry ServerNote) → SinkFacts → Type 0
BreaksLate o journal p = (took : TookFront o (journal_lines journal) p)
    × WroteUntilLast journal took.front

-- all lines of the journal were written or, if a write failed, a front of them
abbrev pub HasWritten : Bool → SinkFacts → List (Entry ServerNote) → SinkFacts → Type 0
HasWritten false o journal p = TookAll o (journal_lines journal) p
HasWritten true o journal p = BreaksLate o journal p

-- What the journal of a run says, by the status with which it ended: the output has its lines, or a
-- front of them if a write failed.
pub record StandsFor (limit : ℕ) (i : SourceFacts) (o : SinkFacts) (j : SourceFacts) (p : SinkFacts)
    (code : ℕ) (journal : List (Entry ServerNote)) : Type 0 where
  pub over : (journal ≡ []) ⊎ IsWholeRun journal
  pub some : code ≡ 0 → journal ≢ []
  pub run : OpensNothing i j code journal ⊎ ServesConnection limit i j code journal
  pub written : HasWritten false o journal p ⊎ HasWritten true o journal p
  pub whole : code ≢ 3 → code ≢ 4 → TookAll o (journal_lines journal) p
  pub broken : code ≡ 4 → BreaksLate o journal p

-- There is a journal that stands for the run, whether the volumes tell its first entries or not:
-- from number `first` on its entries are those that are held.
pub record SomeJournal (limit : ℕ) (i : SourceFacts) (o : SinkFacts) (j : SourceFacts)
    (p : SinkFacts) (code first : ℕ) (held : List (Entry ServerNote)) : Type 0 where
  pub journal : List (Entry ServerNote)
  pub within : first ≤ length journal
  pub is_held : held ≡ drop first journal
  pub stands : StandsFor limit i o j p code journal
