-- What an end of a connection tells, and what its calls do (C++NPv2 chapter 3: `ACE_SOCK_Stream`
-- and `ACE_SOCK_Acceptor`).
use Rattle.std.specs.Prelude.{◌≡◌, ◌≤◌, ◌+◌, ◌⊎◌, ℕ, Bool, true, false, List, [], length, take}
use Rattle.std.specs.Prelude.{Option, Some, None}
use Rattle.ev_base.specs.Counts.{counted, Rose}
use Rattle.ev_base.specs.Bytes.{ReaderBytes, MovesOn, NothingLeft, HasGiven}
use Rattle.ev_base.specs.Sink.{GrowsBy}
use Rattle.ev_base.specs.Story.{Connection, NoneThere, OneFailure, Telling, Offering, TellsNext}
use Rattle.ev_base.specs.Story.{TakesOffer, NoOfferLeft}
use Rattle.ev_base.specs.declared.source.Got.{Got}
use Rattle.ev_base.specs.declared.source.Got.TheVariants as got
use Rattle.ev_base.specs.declared.end.Sent.{Sent}
use Rattle.ev_base.specs.declared.end.Sent.TheVariants as sent
use Rattle.ev_base.specs.declared.end.Taken.{Taken}
use Rattle.ev_base.specs.declared.end.Taken.TheVariants as taken
use Rattle.ev_base.specs.declared.dial.Finish.{Finish}
use Rattle.ev_base.specs.declared.dial.Finish.TheVariants as finish

-- what a try to read, accept or write came to
pub data Try : Type 0 where
  Moved : (count : ℕ) → Try
  Accepted : Try
  Paused : Try
  WasOver : Try
  Faulted : Try

pub record EndFacts : Type 0 where
  -- whether it is a listener, which accepts and neither reads nor writes
  pub listener : Bool
  -- how many reads and accepts it made, and what the last came to
  pub reads : ℕ
  pub last_read : Option Try
  -- how many writes it made, and what the last came to
  pub writes : ℕ
  pub last_write : Option Try
  -- how often it was asked whether its connection is made, and what the last answer was
  pub finishes : ℕ
  pub last_finish : Option Finish
  -- how often a call failed
  pub faults : ℕ
  -- how many bytes its reads gave
  pub gave : ℕ
  -- whether a read answered Over
  pub over : Bool
  -- the bytes read and those still to come, and the bytes written, if they are told
  pub bytes : Option ReaderBytes
  pub written : Option (List ℕ)
  -- its serial number, and how far its story was told, if it has them
  pub serial : Option ℕ
  pub telling : Option Telling
  pub offering : Option Offering

-- nothing was told yet
abbrev pub GaveNoPart : Option Telling → Type 0
GaveNoPart None = Unit {0}
GaveNoPart (Some t) = (t.given ≡ []) × (t.at ≡ 0)

abbrev pub GaveNoOffer : Option Offering → Type 0
GaveNoOffer None = Unit {0}
GaveNoOffer (Some o) = o.given ≡ []

-- nothing was written yet, if it is told
abbrev pub WroteNothing : Option (List ℕ) → Type 0
WroteNothing None = Unit {0}
WroteNothing (Some written) = written ≡ []

-- an end that has made no call, given nothing and written nothing
pub record IsFresh (e : EndFacts) : Type 0 where
  pub reads : e.reads ≡ 0
  pub last_read : e.last_read ≡ None
  pub writes : e.writes ≡ 0
  pub last_write : e.last_write ≡ None
  pub finishes : e.finishes ≡ 0
  pub last_finish : e.last_finish ≡ None
  pub faults : e.faults ≡ 0
  pub gave : e.gave ≡ 0
  pub over : e.over ≡ false
  pub bytes : HasGiven e.bytes []
  pub written : WroteNothing e.written
  pub telling : GaveNoPart e.telling
  pub offering : GaveNoOffer e.offering

-- ---- reading

-- a read or an accept came to this: it is counted, and what it does not concern is as before
pub record CountsRead (old : EndFacts) (came_to : Try) (new : EndFacts) : Type 0 where
  pub reads : new.reads ≡ counted old.reads
  pub last_read : new.last_read ≡ Some came_to
  pub listener : new.listener ≡ old.listener
  pub writes : new.writes ≡ old.writes
  pub last_write : new.last_write ≡ old.last_write
  pub finishes : new.finishes ≡ old.finishes
  pub last_finish : new.last_finish ≡ old.last_finish
  pub written : new.written ≡ old.written
  pub serial : new.serial ≡ old.serial

-- a read gave the first n bytes of the buffer
pub record EndGives (old : EndFacts) (buffer : List ℕ) (n : ℕ) (new : EndFacts) : Type 0 where
  pub counts : CountsRead old (Moved n) new
  pub some : 1 ≤ n
  pub within : n ≤ length buffer
  pub gave : new.gave ≡ old.gave + n
  pub bytes : MovesOn old.bytes (take n buffer) new.bytes
  pub telling : TellsNext old.telling (length buffer) (got.Bytes n) (take n buffer) new.telling
  pub was_not_over : old.over ≡ false
  pub over : new.over ≡ false
  pub faults : new.faults ≡ old.faults
  pub offering : new.offering ≡ old.offering

-- a read found nothing now
pub record EndPauses (old : EndFacts) (buffer : List ℕ) (new : EndFacts) : Type 0 where
  pub counts : CountsRead old Paused new
  pub gave : new.gave ≡ old.gave
  pub bytes : new.bytes ≡ old.bytes
  pub telling : TellsNext old.telling (length buffer) got.Pause [] new.telling
  pub was_not_over : old.over ≡ false
  pub over : new.over ≡ false
  pub faults : new.faults ≡ old.faults
  pub offering : new.offering ≡ old.offering

-- a read found the end of the input
pub record EndIsOver (old : EndFacts) (buffer : List ℕ) (new : EndFacts) : Type 0 where
  pub counts : CountsRead old WasOver new
  pub gave : new.gave ≡ old.gave
  pub bytes : new.bytes ≡ old.bytes
  pub nothing_left : NothingLeft old.bytes
  pub telling : TellsNext old.telling (length buffer) got.Over [] new.telling
  pub over : new.over ≡ true
  pub faults : new.faults ≡ old.faults
  pub offering : new.offering ≡ old.offering

-- a read failed
pub record EndFailsToRead (old : EndFacts) (buffer : List ℕ) (new : EndFacts) : Type 0 where
  pub counts : CountsRead old Faulted new
  pub gave : new.gave ≡ old.gave
  pub rose : Rose old.faults new.faults
  pub bytes : new.bytes ≡ old.bytes
  pub telling : TellsNext old.telling (length buffer) got.Failed [] new.telling
  pub was_not_over : old.over ≡ false
  pub over : new.over ≡ false
  pub offering : new.offering ≡ old.offering

-- what a read into a buffer does, by its answer
abbrev pub EndReads : EndFacts → List ℕ → Got → EndFacts → Type 0
EndReads old buffer (got.Bytes n) new = EndGives old buffer n new
EndReads old buffer got.Pause new = EndPauses old buffer new
EndReads old buffer got.Over new = EndIsOver old buffer new
EndReads old buffer got.Failed new = EndFailsToRead old buffer new

-- ---- writing

-- a write came to this: it is counted, and what it does not concern is as before
pub record CountsWrite (old : EndFacts) (came_to : Try) (new : EndFacts) : Type 0 where
  pub writes : new.writes ≡ counted old.writes
  pub last_write : new.last_write ≡ Some came_to
  pub listener : new.listener ≡ old.listener
  pub reads : new.reads ≡ old.reads
  pub last_read : new.last_read ≡ old.last_read
  pub finishes : new.finishes ≡ old.finishes
  pub last_finish : new.last_finish ≡ old.last_finish
  pub gave : new.gave ≡ old.gave
  pub over : new.over ≡ old.over
  pub bytes : new.bytes ≡ old.bytes
  pub serial : new.serial ≡ old.serial
  pub telling : new.telling ≡ old.telling
  pub offering : new.offering ≡ old.offering

-- a write took the first n bytes of a piece
pub record EndTakes (old : EndFacts) (piece : List ℕ) (n : ℕ) (new : EndFacts) : Type 0 where
  pub counts : CountsWrite old (Moved n) new
  pub some : 1 ≤ n
  pub within : n ≤ length piece
  pub written : GrowsBy old.written (take n piece) new.written
  pub faults : new.faults ≡ old.faults

-- a write found no room now
pub record EndIsFull (old new : EndFacts) : Type 0 where
  pub counts : CountsWrite old Paused new
  pub written : new.written ≡ old.written
  pub faults : new.faults ≡ old.faults

-- a write failed
pub record EndFailsToWrite (old new : EndFacts) : Type 0 where
  pub counts : CountsWrite old Faulted new
  pub rose : Rose old.faults new.faults
  pub written : new.written ≡ old.written

-- what a write of a piece does, by its answer
abbrev pub EndWrites : EndFacts → List ℕ → Sent → EndFacts → Type 0
EndWrites old piece (sent.Bytes n) new = EndTakes old piece n new
EndWrites old piece sent.Pause new = EndIsFull old new
EndWrites old piece sent.Failed new = EndFailsToWrite old new

-- ---- finishing a connection that is being made

-- a call of `finish` was answered so: it is counted, and what it does not concern is as before
pub record CountsFinish (old : EndFacts) (answer : Finish) (new : EndFacts) : Type 0 where
  pub finishes : new.finishes ≡ counted old.finishes
  pub last_finish : new.last_finish ≡ Some answer
  pub listener : new.listener ≡ old.listener
  pub reads : new.reads ≡ old.reads
  pub last_read : new.last_read ≡ old.last_read
  pub writes : new.writes ≡ old.writes
  pub last_write : new.last_write ≡ old.last_write
  pub gave : new.gave ≡ old.gave
  pub over : new.over ≡ old.over
  pub bytes : new.bytes ≡ old.bytes
  pub written : new.written ≡ old.written
  pub serial : new.serial ≡ old.serial
  pub telling : new.telling ≡ old.telling
  pub offering : new.offering ≡ old.offering

-- whether the count of faults stands or rose, by the answer
abbrev pub FaultsAfter : Finish → ℕ → ℕ → Type 0
FaultsAfter finish.Done before now = now ≡ before
FaultsAfter finish.Pause before now = now ≡ before
FaultsAfter finish.Failed before now = Rose before now

-- what a call of `finish` does, by its answer
pub record EndFinishes (old : EndFacts) (answer : Finish) (new : EndFacts) : Type 0 where
  pub counts : CountsFinish old answer new
  pub faults : FaultsAfter answer old.faults new.faults

-- ---- accepting

-- what a listener's accept leaves as it was
pub record CountsAccept (old : EndFacts) (came_to : Try) (new : EndFacts) : Type 0 where
  pub counts : CountsRead old came_to new
  pub gave : new.gave ≡ old.gave
  pub over : new.over ≡ old.over
  pub bytes : new.bytes ≡ old.bytes
  pub telling : new.telling ≡ old.telling

-- if the listener tells its story, the end has the serial number of the offer that was next;
-- if it doesn't, the end has none
abbrev pub TakesSerial : Option Offering → Option ℕ → Option Offering → Type 0
TakesSerial None serial None = serial ≡ None
TakesSerial None serial (Some new) = ⊥
TakesSerial (Some old) None new = ⊥
TakesSerial (Some old) (Some serial) new = TakesOffer (Some old) (Connection serial) new

-- an accept gave a connection's end, which has made no call yet
pub record AcceptsEnd (old given new : EndFacts) : Type 0 where
  pub counts : CountsAccept old Accepted new
  pub no_listener : given.listener ≡ false
  pub fresh : IsFresh given
  pub offering : TakesSerial old.offering given.serial new.offering
  pub faults : new.faults ≡ old.faults

-- an accept found no connection waiting
pub record AcceptsNone (old new : EndFacts) : Type 0 where
  pub counts : CountsAccept old Paused new
  pub offering : NoOfferLeft old.offering new.offering
      ⊎ TakesOffer old.offering NoneThere new.offering
  pub faults : new.faults ≡ old.faults

-- an accept failed
pub record FailsToAccept (old new : EndFacts) : Type 0 where
  pub counts : CountsAccept old Faulted new
  pub offering : TakesOffer old.offering OneFailure new.offering
  pub rose : Rose old.faults new.faults

-- what an accept does, by its answer
abbrev pub Accepts : {E : Type 0} → (E → EndFacts) → EndFacts → Taken E → EndFacts → Type 0
Accepts tells old (taken.One end) new = AcceptsEnd old (tells end) new
Accepts tells old taken.Pause new = AcceptsNone old new
Accepts tells old taken.Failed new = FailsToAccept old new

-- what is kept of the listener is kept of the end that it gives
abbrev pub KeptByGiven : {E : Type 0} → (E → Type 0) → Taken E → Type 0
KeptByGiven keeps (taken.One end) = keeps end
KeptByGiven keeps taken.Pause = Unit {0}
KeptByGiven keeps taken.Failed = Unit {0}
