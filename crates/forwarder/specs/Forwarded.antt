-- What the turns of the forwarding service come to.
use Rattle.std.specs.Prelude.{◌≡◌, ◌≤◌, ◌+◌, ◌⊎◌, ℕ, true, List, [], ◌∷◌, ◌++◌, length}
use Rattle.std.specs.Prelude.{Option, Some, None, IsSome}
use Rattle.ev_base.specs.Bytes.{HasGiven}
use Rattle.ev_base.specs.Counts.{Counts}
use Rattle.ev_base.specs.End.{EndFacts, Paused, Faulted, IsFresh}
use Rattle.ev_base.specs.Source.{SourceFacts}
use Rattle.ev_base.specs.declared.end.PeerEnd.{Ghosts}
use Rattle.ev_base.specs.ev_types.specs.declared.upcall.Answer.{Answer}
use Rattle.ev_base.specs.ev_types.specs.declared.upcall.Answer.TheVariants.{Keep, Again, Close}
use Rattle.ev_base.specs.ev_types.specs.declared.upcall.Upcall.{Upcall}
use Rattle.ev_base.specs.ev_types.specs.declared.upcall.Upcall.TheVariants.{Input, Output, Except}
use Rattle.ev_base.specs.ev_types.specs.declared.upcall.Upcall.TheVariants.{Timeout, Notice}
use Rattle.cdr_record.specs.Decoding.{StandsFor, Clean, Partial, Malformed, decode, told, taken_of}
use Rattle.cdr_record.specs.Decoding.{bad_of}
use Rattle.reactor_model.specs.reactor_journal.specs.Event.{Item}
use Rattle.reactor_model.specs.Handling.{NoClose, EndsInClose}
use Rattle.forwarder.specs.Feeding.{feed}
use Rattle.forwarder.specs.Waiting.{most_held}
use Rattle.forwarder.specs.Forwarding.{State, Course, at_start, note_of}
use Rattle.forwarder.specs.Services.{state_of, held_of}
use Rattle.forwarder.specs.declared.forward_end.ForwardEnd.{ForwardEnd}
use Rattle.forwarder.specs.declared.forwarder.Forwarder.{Forwarder}
use Rattle.forwarder.specs.declared.note.ForwardNote.{ForwardNote}
use Rattle.forwarder.specs.declared.note.ForwardEnding.{ForwardEnding}
use Rattle.forwarder.specs.declared.note.ForwardEnding.TheVariants as end

-- these bytes were written and no others, if it is told
abbrev pub IsWritten : Option (List ℕ) → List ℕ → Type 0
IsWritten None bytes = Unit {0}
IsWritten (Some written) bytes = written ≡ bytes

-- a bad record stands at this place of the bytes, or, at the end of the input, an unfinished one
abbrev pub StopsAtRecord : EndFacts → List ℕ → ℕ → Type 0
StopsAtRecord e taken at = ((decode taken).stop ≡ Malformed at)
    ⊎ ((e.over ≡ true) × ((n : ℕ) × ((decode taken).stop ≡ Partial n)
    × (at ≡ told (taken_of taken))))

-- what holds if it reads no more, by how it will end; no bad record came before a failed read
abbrev pub HasStopped : ForwardEnding → List ℕ → EndFacts → Type 0
HasStopped end.End taken e = (e.over ≡ true) × ((decode taken).stop ≡ Clean)
HasStopped (end.BadRecord at) taken e = StopsAtRecord e taken at
HasStopped end.ReadFailed taken e = (e.last_read ≡ Some Faulted) × (bad_of taken ≡ None)
HasStopped end.PeerFailed taken e = ⊥
HasStopped end.NoMemory taken e = ⊥

-- What holds once it ended: at the end of its input, at a bad or an unfinished record, and
-- after a failed read, all before was sent first; a failed write ends it at once.
abbrev pub EndedSo : ForwardEnding → List ℕ → List ℕ → EndFacts → Type 0
EndedSo end.PeerFailed taken rest e = e.last_write ≡ Some Faulted
EndedSo end.NoMemory taken rest e = Unit {0}
EndedSo how taken rest e = (rest ≡ []) × HasStopped how taken e

abbrev pub IfSo : Option ForwardEnding → (ForwardEnding → Type 0) → Type 0
IfSo None holds = Unit {0}
IfSo (Some how) holds = holds how

-- where the service stands that goes on: its decoder stands for the bytes taken, what it holds is
-- what is still to be sent, and it counted all records
pub record GoesOnFrom (taken rest : List ℕ) (s : State) : Type 0 where
  pub stands : StandsFor s.decoder taken
  pub waits : rest ≡ s.waiting
  pub records : Counts s.records (length (decode taken).records)
  -- while it may read, no bad record came
  pub sound : s.stop ≡ None → bad_of taken ≡ None

abbrev pub UnlessWanting : Option ForwardEnding → Type 0 → Type 0
UnlessWanting (Some end.NoMemory) holds = Unit {0}
UnlessWanting _ holds = holds

-- The bytes that the end was given, followed by those that are still to be sent, are what is
-- forwarded of the bytes that were taken of the source.
pub record HasForwarded (s : State) : Type 0 where
  pub taken : List ℕ
  pub given : HasGiven s.facts.bytes taken
  pub gave : s.facts.gave ≡ length taken
  pub sent : List ℕ
  pub written : IsWritten s.facts.written sent
  pub bytes : Counts s.bytes (length sent)
  pub rest : List ℕ
  pub whole : feed taken ≡ sent ++ rest
  pub going : UnlessWanting s.ended (GoesOnFrom taken rest s)
  pub stop : IfSo s.stop (λ how. HasStopped how taken s.facts)
  pub ended : IfSo s.ended (λ how. EndedSo how taken rest s.facts)

-- ---- all turns

-- how many turns, timeouts apart, were answered Keep
abbrev pub is_rest : Answer → ℕ
is_rest Keep = 1
is_rest Again = 0
is_rest Close = 0

abbrev pub rest_of : Upcall → Answer → ℕ
rest_of (Timeout timer) answer = 0
rest_of Input answer = is_rest answer
rest_of Output answer = is_rest answer
rest_of Except answer = is_rest answer
rest_of (Notice kind) answer = is_rest answer

abbrev pub rests_in : List (Item ForwardNote) → ℕ
rests_in [] = 0
rests_in (item ∷ items) = rest_of item.upcall item.answer + rests_in items

-- what the last turn leaves: its note, and, if it was answered Keep, a write that paused
pub record LeavesTurn (s : State) (item : Item ForwardNote) : Type 0 where
  pub notes : item.note ≡ note_of s
  pub paused : rest_of item.upcall item.answer ≡ 1 → s.facts.last_write ≡ Some Paused

abbrev pub LastIs : (Item ForwardNote → Type 0) → List (Item ForwardNote) → Type 0
LastIs holds [] = Unit {0}
LastIs holds (item ∷ []) = holds item
LastIs holds (item ∷ next ∷ items) = LastIs holds (next ∷ items)

-- What the turns of a service come to that stands so: which turns they were, what was forwarded,
-- and that each turn that was answered Keep made a write. It ended itself exactly if its last
-- answer was Close.
pub record HasTurned (had : List (Item ForwardNote)) (s : State) : Type 0 where
  pub start : EndFacts
  pub fresh : IsFresh start
  pub course : Course (at_start start) had s
  pub forwarded : HasForwarded s
  pub last : LastIs (LeavesTurn s) had
  pub writes : ℕ
  pub counted : Counts s.facts.writes writes
  pub rested : rests_in had ≤ writes
  pub goes_on : NoClose had → s.ended ≡ None
  pub closed : EndsInClose had → IsSome s.ended

-- The service had exactly these turns on its end, which had made no call before: the end tells what
-- they did, and the queue holds no more bytes than it may.
pub record HasServed {E S : Type 0} {G : Ghosts E} (tells : E → EndFacts) (source : S → SourceFacts)
    (service : Forwarder E S) (end : ForwardEnd E S G) (had : List (Item ForwardNote)) : Type 0
  where
    pub turned : HasTurned had (state_of tells source service end)
    pub few : held_of service ≤ most_held
