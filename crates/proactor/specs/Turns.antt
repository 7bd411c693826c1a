-- What an end over a completion handler does, turn by turn (POSA2, Proactor: Asynchronous Operation
-- Processor).
use Rattle.std.specs.Prelude.{◌≡◌, ◌⊎◌, ◌+◌, ℕ, nat_lt, Bool, true, false, List, [], ◌∷◌}
use Rattle.std.specs.Prelude.{◌++◌, ◌||◌, length, take, drop}
use Rattle.ev_base.specs.ev_types.specs.declared.upcall.Answer.{Answer}
use Rattle.ev_base.specs.ev_types.specs.declared.upcall.Answer.TheVariants.{Keep, Again, Close}
use Rattle.ev_base.specs.ev_types.specs.declared.upcall.Upcall.{Upcall}
use Rattle.ev_base.specs.ev_types.specs.declared.upcall.Upcall.TheVariants.{Input, Output, Except}
use Rattle.ev_base.specs.ev_types.specs.declared.upcall.Upcall.TheVariants.{Timeout, Notice}
use Rattle.ev_base.specs.Counts.{Counts}
use Rattle.ev_base.specs.End.{EndFacts, EndReads, EndWrites}
use Rattle.ev_base.specs.declared.source.Got.{Got}
use Rattle.ev_base.specs.declared.source.Got.TheVariants as got
use Rattle.ev_base.specs.declared.end.Sent.{Sent}
use Rattle.ev_base.specs.declared.end.Sent.TheVariants as sent
use Rattle.reactor_model.specs.reactor_journal.specs.Event.{Item}
use Rattle.reactor_model.specs.Handling.{GoesOn}
use Rattle.proactor.specs.declared.note.AsynchNote.{AsynchNote}
use Rattle.proactor.specs.declared.operation.Op.{Op}
use Rattle.proactor.specs.declared.operation.Outcome.{Outcome}
use Rattle.proactor.specs.declared.operation.Outcome.TheVariants as outcome
use Rattle.proactor.specs.declared.standing.Reading.{Reading}
use Rattle.proactor.specs.declared.standing.Writing.{Writing}
use Rattle.proactor.specs.Events.{Event, Took, Gave, ReadDone, WriteDone, Reply, up_in, some_of}
use Rattle.proactor.specs.Events.{moves, ends, starves, taken, given, count_done}
use Rattle.proactor.specs.Standing.{Stands, begins_with, queued}

-- where an end stands between two turns: what it tells, and the operations that stand
pub record State : Type 0 where
  pub facts : EndFacts
  pub standing : Stands

abbrev pub at_start : EndFacts → Op → State
at_start facts first = record { facts = facts; standing = begins_with first }

-- ---- one read

-- the first read completes so, and what the handler asks for then is queued
pub record CompletesRead (read : Reading) (rest : List Reading) (came : Outcome) (before : State)
    (events : List Event) (after : State) : Type 0 where
  pub reply : Reply
  pub tells : events ≡ ReadDone read came reply ∷ []
  pub leaves : after ≡ record before {
    standing = queued (up_in reply) (record before.standing { reads = rest });
  }

-- a read that gave bytes completes with them
pub record CompletesWith (bytes : List ℕ) (read : Reading) (rest : List Reading) (before : State)
    (events : List Event) (after : State) : Type 0 where
  pub told : List Event
  pub completes : CompletesRead read rest (outcome.Read bytes) before told after
  pub tells : events ≡ Took bytes ∷ told

-- what comes of a read, by its answer
abbrev pub TakesRead : Got → List ℕ → Reading → List Reading → State → List Event → State → Type 0
TakesRead (got.Bytes n) buffer read rest before events after =
    CompletesWith (take n buffer) read rest before events after
TakesRead got.Pause buffer read rest before events after = (events ≡ []) × (after ≡ before)
TakesRead got.Over buffer read rest before events after =
    CompletesRead read rest outcome.Over before events after
TakesRead got.Failed buffer read rest before events after =
    CompletesRead read rest outcome.Failed before events after

-- it makes one read, of as many bytes as the first read wants
pub record ReadsOnce (read : Reading) (rest : List Reading) (before : State) (events : List Event)
    (after : State) : Type 0 where
  pub gave : Got
  pub buffer : List ℕ
  pub room : length buffer ≡ read.want
  pub facts : EndFacts
  pub reads : EndReads before.facts buffer gave facts
  pub takes : TakesRead gave buffer read rest (record before { facts = facts }) events after

-- The first read is tried: it makes one read, or completes for want of memory for its bytes.
abbrev pub TriesRead : List Reading → State → List Event → State → Type 0
TriesRead [] before events after = (events ≡ []) × (after ≡ before)
TriesRead (read ∷ rest) before events after =
    ReadsOnce read rest before events after
    ⊎ CompletesRead read rest outcome.NoMemory before events after

-- ---- one write

-- the first write completes so
pub record CompletesWrite (write : Writing) (rest : List Writing) (came : Outcome) (before : State)
    (events : List Event) (after : State) : Type 0 where
  pub reply : Reply
  pub tells : events ≡ WriteDone write came reply ∷ []
  pub leaves : after ≡ record before {
    standing = queued (up_in reply) (record before.standing { writes = rest; sent = 0 });
  }

-- some more of its bytes were taken: it goes on, or completes at its last
abbrev pub Advances : Bool → ℕ → Writing → List Writing → State → List Event → State → Type 0
Advances true now write rest before events after =
    (events ≡ []) × (after ≡ record before { standing = record before.standing { sent = now } })
Advances false now write rest before events after =
    CompletesWrite write rest outcome.Wrote before events after

pub record TakesBytes (n : ℕ) (write : Writing) (rest : List Writing) (before : State)
    (events : List Event) (after : State) : Type 0 where
  pub told : List Event
  pub advances : Advances (nat_lt (before.standing.sent + n) (length write.bytes))
      (before.standing.sent + n) write
      rest before told after
  pub tells : events ≡ Gave (take n (drop before.standing.sent write.bytes)) ∷ told

-- what comes of a write, by its answer
abbrev pub TakesWrite : Sent → Writing → List Writing → State → List Event → State → Type 0
TakesWrite (sent.Bytes n) write rest before events after =
    TakesBytes n write rest before events after
TakesWrite sent.Pause write rest before events after = (events ≡ []) × (after ≡ before)
TakesWrite sent.Failed write rest before events after =
    CompletesWrite write rest outcome.Failed before events after

-- it makes one write, of the bytes of the first write that were not taken yet
pub record WritesOnce (write : Writing) (rest : List Writing) (before : State)
    (events : List Event) (after : State) : Type 0 where
  pub took : Sent
  pub facts : EndFacts
  pub writes : EndWrites before.facts (drop before.standing.sent write.bytes) took facts
  pub takes : TakesWrite took write rest (record before { facts = facts }) events after

-- the first write is tried
abbrev pub TriesWrite : List Writing → State → List Event → State → Type 0
TriesWrite [] before events after = (events ≡ []) × (after ≡ before)
TriesWrite (write ∷ rest) before events after = WritesOnce write rest before events after

-- ---- one turn

abbrev pub tries_read : State → List Event → State → Type 0
tries_read before events after = TriesRead before.standing.reads before events after

abbrev pub tries_write : State → List Event → State → Type 0
tries_write before events after = TriesWrite before.standing.writes before events after

-- no write is tried after a read that met want of memory
abbrev pub GoesOnToWrite : Bool → State → List Event → State → Type 0
GoesOnToWrite true before events after = (events ≡ []) × (after ≡ before)
GoesOnToWrite false before events after = tries_write before events after

-- the first read is tried once, then the first write once
pub record TriesBoth (before : State) (events : List Event) (after : State) : Type 0 where
  pub read : List Event
  pub between : State
  pub wrote : List Event
  pub reads : tries_read before read between
  pub writes : GoesOnToWrite (some_of starves read) between wrote after
  pub both : events ≡ read ++ wrote

-- an upcall for input or output tries both, and every other one does nothing
abbrev pub Serves : Upcall → State → List Event → State → Type 0
Serves Input before events after = TriesBoth before events after
Serves Output before events after = TriesBoth before events after
Serves Except before events after = (events ≡ []) × (after ≡ before)
Serves (Timeout timer) before events after = (events ≡ []) × (after ≡ before)
Serves (Notice kind) before events after = (events ≡ []) × (after ≡ before)

-- The answer to what happened in a turn: Close if the handler was done, an operation failed or
-- there was no memory; else Again if bytes went either way.
abbrev pub answer_by : (closes : Bool) (moved : Bool) → Answer
answer_by true moved = Close
answer_by false true = Again
answer_by false false = Keep

abbrev pub answer_to : List Event → Answer
answer_to events = answer_by (some_of ends events || some_of starves events) (some_of moves events)

-- the note of an end with this number at which these events happened so far, with so many
-- operations cancelled, and with want of memory in a turn or not
pub record NotesSo (conn : ℕ) (all : List Event) (cancelled : ℕ) (starved : Bool)
    (said : AsynchNote) : Type 0 where
  pub conn_is : said.conn ≡ conn
  pub read : Counts said.read (length (taken all))
  pub wrote : Counts said.wrote (length (given all))
  pub completed : Counts said.completed (count_done all)
  pub cancelled_is : Counts said.cancelled cancelled
  pub no_memory : said.no_memory ≡ starved

-- one turn, before which such events had happened
pub record Turns (conn : ℕ) (past : List Event) (before : State) (events : List Event)
    (item : Item AsynchNote) (after : State) : Type 0 where
  pub serves : Serves item.upcall before events after
  pub answers : item.answer ≡ answer_to events
  pub notes : NotesSo conn (past ++ events) 0 (some_of starves (past ++ events)) item.note

-- turns one after another, each from where the one before left it: all that happened, and where the
-- last left it
abbrev pub Course : ℕ → List Event → State → List (Item AsynchNote) → List Event → State → Type 0
Course conn past start [] all s = (all ≡ past) × (s ≡ start)
Course conn past start (item ∷ items) all s =
    (events : List Event) × (next : State) × Turns conn past start events item next
    × Course conn (past ++ events) next items all s

-- no answer but the last is Close
abbrev pub OnlyLast : List (Item AsynchNote) → Type 0
OnlyLast [] = Unit {0}
OnlyLast (item ∷ []) = Unit {0}
OnlyLast (item ∷ next ∷ items) = GoesOn item.answer × OnlyLast (next ∷ items)

-- ---- closing

-- nothing that is asked for then is taken up
abbrev pub TakesNothingUp : Reply → Type 0
TakesNothingUp reply = up_in reply ≡ []

-- the operations that stand complete as cancelled, reads first
abbrev pub Cancels : List Reading → List Writing → List Event → Type 0
Cancels [] [] events = events ≡ []
Cancels (read ∷ reads) writes events =
    (reply : Reply) × (rest : List Event) × TakesNothingUp reply × Cancels reads writes rest
    × (events ≡ ReadDone read outcome.Cancelled reply ∷ rest)
Cancels [] (write ∷ writes) events =
    (reply : Reply) × (rest : List Event) × TakesNothingUp reply × Cancels [] writes rest
    × (events ≡ WriteDone write outcome.Cancelled reply ∷ rest)

abbrev pub count_standing : Stands → ℕ
count_standing s = length s.reads + length s.writes
