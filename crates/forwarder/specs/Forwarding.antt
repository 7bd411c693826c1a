-- What the forwarding service does, turn by turn (C++NPv2 chapter 7: the client logging daemon).
use Rattle.std.specs.Prelude.{◌≡◌, ◌+◌, ◌-◌, ◌==◌, ◌^◌, ◌||◌, ◌&&◌, ℕ, min, Bool, true, false, not}
use Rattle.std.specs.Prelude.{List, [], ◌∷◌, ◌++◌, length, take, drop, Option, Some}
use Rattle.std.specs.Prelude.{None, is_none, ◌⊎◌}
use Rattle.ev_base.specs.ev_types.specs.declared.upcall.Answer.{Answer}
use Rattle.ev_base.specs.ev_types.specs.declared.upcall.Answer.TheVariants.{Keep, Again, Close}
use Rattle.ev_base.specs.ev_types.specs.declared.upcall.Upcall.{Upcall}
use Rattle.ev_base.specs.ev_types.specs.declared.upcall.Upcall.TheVariants.{Input, Output, Except}
use Rattle.ev_base.specs.ev_types.specs.declared.upcall.Upcall.TheVariants.{Timeout, Notice}
use Rattle.ev_base.specs.End.{EndFacts, EndReads, EndWrites}
use Rattle.ev_base.specs.declared.source.Got.{Got}
use Rattle.ev_base.specs.declared.source.Got.TheVariants as got
use Rattle.ev_base.specs.declared.end.Sent.{Sent}
use Rattle.ev_base.specs.declared.end.Sent.TheVariants as sent
use Rattle.cdr_record.specs.Decoding.{DecoderState}
use Rattle.cdr_record.specs.Feeding.{Feeds, fresh}
use Rattle.cdr_record.specs.declared.decoder.Fed.{Fed}
use Rattle.reactor_model.specs.reactor_journal.specs.Event.{Item}
use Rattle.forwarder.specs.Feeding.{sent_all}
use Rattle.forwarder.specs.Readings.{stop_of, stop_at_end}
use Rattle.forwarder.specs.declared.note.ForwardNote.{ForwardNote}
use Rattle.forwarder.specs.declared.note.ForwardEnding.{ForwardEnding}
use Rattle.forwarder.specs.declared.note.ForwardEnding.TheVariants as end

-- where the service stands between two turns
pub record State : Type 0 where
  -- what its end tells
  pub facts : EndFacts
  -- its decoder, which was fed all that was read
  pub decoder : DecoderState
  -- the bytes that wait to be sent: the rest of the message that is being sent, then the queue's
  pub waiting : List ℕ
  -- how it will end once nothing waits, if it reads no more
  pub stop : Option ForwardEnding
  -- how many records it read, and how many bytes the end was given
  pub records : ℕ
  pub bytes : ℕ
  -- how it ended, once it did
  pub ended : Option ForwardEnding

-- where it begins
abbrev pub at_start : EndFacts → State
at_start facts = record {
  facts = facts;
  decoder = fresh;
  waiting = [];
  stop = None;
  records = 0;
  bytes = 0;
  ended = None;
}

-- a total after so many more: it stands still at the end of its 64 bits
abbrev pub more : ℕ → ℕ → ℕ
more total many = min (total + many) (2 ^ 64 - 1)

abbrev pub none_wait : State → Bool
none_wait s = length s.waiting == 0

-- ---- reading

-- it reads only if nothing waits, and never after the end, a bad record or a failed read
abbrev pub may_read : State → Bool
may_read s = none_wait s && is_none s.stop

-- the records that a piece completed are counted, and wait to be sent
pub record TakesPiece (piece : List ℕ) (before after : State) : Type 0 where
  pub fed : Fed
  pub feeds : Feeds before.decoder piece fed after.decoder
  pub leaves : after ≡ record before {
    decoder = after.decoder;
    waiting = before.waiting ++ sent_all fed.records;
    stop = stop_of fed.bad;
    records = more before.records (length fed.records);
  }

-- there was no memory for a piece or its records
abbrev pub LacksMemory : State → State → Type 0
LacksMemory before after =
    after ≡ record before { decoder = after.decoder; ended = Some end.NoMemory }

-- what comes of a read, by its answer: whether it gave bytes, and where that leaves it
abbrev pub TakesRead : Got → List ℕ → State → Bool → State → Type 0
TakesRead (got.Bytes n) buffer before gave after =
    (gave ≡ true) × (TakesPiece (take n buffer) before after ⊎ LacksMemory before after)
TakesRead got.Pause buffer before gave after = ⊥
TakesRead got.Over buffer before gave after =
    (gave ≡ false) × (after ≡ record before { stop = Some (stop_at_end before.decoder) })
TakesRead got.Failed buffer before gave after =
    (gave ≡ false) × (after ≡ record before { stop = Some end.ReadFailed })

-- it makes one read, of at most 4,096 bytes
pub record ReadsOnce (before : State) (gave : Bool) (after : State) : Type 0 where
  pub came : Got
  pub buffer : List ℕ
  pub room : length buffer ≡ 4096
  pub facts : EndFacts
  pub reads : EndReads before.facts buffer came facts
  pub takes : TakesRead came buffer (record before { facts = facts }) gave after

abbrev pub Reads : Bool → State → Bool → State → Type 0
Reads true before gave after = ReadsOnce before gave after
Reads false before gave after = (gave ≡ false) × (after ≡ before)

-- ---- writing

-- it writes if something waits, unless it lacked memory
abbrev pub may_write : State → Bool
may_write s = not (none_wait s) && is_none s.ended

-- what comes of a write of all that waits, by its answer: the bytes that were taken wait no more
abbrev pub TakesWrite : Sent → State → Bool → State → Type 0
TakesWrite (sent.Bytes n) before took after =
    (took ≡ true)
    × (after ≡ record before { waiting = drop n before.waiting; bytes = more before.bytes n })
TakesWrite sent.Pause before took after = (took ≡ false) × (after ≡ before)
TakesWrite sent.Failed before took after =
    (took ≡ false) × (after ≡ record before { ended = Some end.PeerFailed })

-- it makes one write, of all that waits
pub record WritesOnce (before : State) (took : Bool) (after : State) : Type 0 where
  pub came : Sent
  pub facts : EndFacts
  pub writes : EndWrites before.facts before.waiting came facts
  pub takes : TakesWrite came (record before { facts = facts }) took after

abbrev pub WritesIf : Bool → State → Bool → State → Type 0
WritesIf true before took after = WritesOnce before took after
WritesIf false before took after = (took ≡ false) × (after ≡ before)

-- ---- one turn

-- how it ends: as it did, or if nothing waits as it will
abbrev pub ending_by : Option ForwardEnding → Bool → Option ForwardEnding → Option ForwardEnding
ending_by (Some how) none stop = Some how
ending_by None true stop = stop
ending_by None false stop = None

abbrev pub concluded : State → State
concluded s = record s { ended = ending_by s.ended (none_wait s) s.stop }

-- at its end it answers Close; else Again if bytes went, and Keep if the end paused
abbrev pub answer_of : Option ForwardEnding → Bool → Answer
answer_of (Some how) went = Close
answer_of None true = Again
answer_of None false = Keep

-- one read if it may, then one write if something waits
pub record Forwards (before : State) (answer : Answer) (after : State) : Type 0 where
  pub gave : Bool
  pub read : State
  pub reads : Reads (may_read before) before gave read
  pub took : Bool
  pub written : State
  pub writes : WritesIf (may_write read) read took written
  pub leaves : after ≡ concluded written
  pub answers : answer ≡ answer_of (concluded written).ended (gave || took)

-- at a timeout it does nothing
abbrev pub Serves : Upcall → State → Answer → State → Type 0
Serves (Timeout timer) before answer after = (answer ≡ Keep) × (after ≡ before)
Serves Input before answer after = Forwards before answer after
Serves Output before answer after = Forwards before answer after
Serves Except before answer after = Forwards before answer after
Serves (Notice kind) before answer after = Forwards before answer after

-- what it notes
abbrev pub note_of : State → ForwardNote
note_of s =
    record { records = s.records; bytes = s.bytes; stop = s.stop; ended = s.ended }

-- one turn, with its note
pub record Turns (before : State) (item : Item ForwardNote) (after : State) : Type 0 where
  pub serves : Serves item.upcall before item.answer after
  pub notes : item.note ≡ note_of after

-- ---- all turns

-- an end that tells the same, but for questions whether its connection is made
pub record IsAsked (old new : EndFacts) : Type 0 where
  pub same : new ≡ record old {
    finishes = new.finishes;
    last_finish = new.last_finish;
    faults = new.faults;
  }

-- turns one after another, each from where the one before left it
abbrev pub Course : State → List (Item ForwardNote) → State → Type 0
Course start [] s = (facts : EndFacts) × IsAsked start.facts facts
    × (s ≡ record start { facts = facts })
Course start (item ∷ items) s =
    (facts : EndFacts) × (next : State) × IsAsked start.facts facts
    × Turns (record start { facts = facts }) item next × Course next items s
