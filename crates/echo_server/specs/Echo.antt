-- What a connection of the echo server does, turn by turn, and what its turns come to.
use Rattle.std.specs.Prelude.{◌≡◌, ◌≤◌, ◌==◌, ℕ, Bool, true, false, not, List, [], ◌++◌, length}
use Rattle.std.specs.Prelude.{take, drop, Option, Some, None, IsSome}
use Rattle.std.specs.List.{sum_by}
use Rattle.reactor.specs.ev_types.specs.declared.upcall.Answer.{Answer}
use Rattle.reactor.specs.ev_types.specs.declared.upcall.Answer.TheVariants.{Keep, Again, Close}
use Rattle.reactor.specs.ev_types.specs.declared.upcall.Upcall.{Upcall}
use Rattle.reactor.specs.ev_types.specs.declared.upcall.Upcall.TheVariants.{Input, Output, Except}
use Rattle.reactor.specs.ev_types.specs.declared.upcall.Upcall.TheVariants.{Timeout, Notice}
use Rattle.reactor.specs.ev_types.specs.declared.upcall.Why.{Why}
use Rattle.reactor.specs.ev_types.specs.declared.upcall.Why.TheVariants as why
use Rattle.reactor.specs.ev_base.specs.Bytes.{HasGiven}
use Rattle.reactor.specs.ev_base.specs.End.{EndFacts, EndReads, EndWrites}
use Rattle.reactor.specs.ev_base.specs.declared.source.Got.{Got}
use Rattle.reactor.specs.ev_base.specs.declared.source.Got.TheVariants as got
use Rattle.reactor.specs.ev_base.specs.declared.end.Sent.{Sent}
use Rattle.reactor.specs.ev_base.specs.declared.end.Sent.TheVariants as sent
use Rattle.reactor.specs.reactor_journal.specs.Event.{Item}
use Rattle.reactor.specs.reactor_model.specs.Handling.{NoClose, EndsInClose}
use Rattle.echo_server.specs.declared.note.EchoNote.{EchoNote}
use Rattle.echo_server.specs.declared.note.EchoNote.TheVariants as note
use Rattle.echo_server.specs.declared.note.Ending.{Ending}
use Rattle.echo_server.specs.declared.note.Ending.TheVariants as end

-- where a connection stands between two turns
pub record State : Type 0 where
  -- what its end tells
  pub facts : EndFacts
  -- the bytes that it read and did not write back yet, in order
  pub waiting : List ℕ
  -- whether bytes went either way since it was accepted, or since the last timeout
  pub moved : Bool
  -- how it ended, once it did so itself
  pub ended : Option Ending

abbrev pub at_start : EndFacts → State
at_start facts = record { facts = facts; waiting = []; moved = false; ended = None }

abbrev pub none_wait : List ℕ → Bool
none_wait bytes = length bytes == 0

abbrev pub some_wait : List ℕ → Bool
some_wait bytes = not (none_wait bytes)

-- ---- one turn: from where it stood, with its answer and how many bytes it read and wrote back,
-- to where it stands

pub record DoesNothing (before : State) (answer : Answer) (read written : ℕ) (after : State) : Type
    0 where
  pub answers : answer ≡ Keep
  pub reads : read ≡ 0
  pub writes : written ≡ 0
  pub leaves : after ≡ before

-- it closes itself so, and moves no bytes
pub record ClosesAs (how : Ending) (before : State) (answer : Answer) (read written : ℕ)
    (after : State) : Type 0 where
  pub answers : answer ≡ Close
  pub reads : read ≡ 0
  pub writes : written ≡ 0
  pub leaves : after ≡ record before { ended = Some how }

-- what comes of a write of the bytes that wait, by its answer: those that were taken wait no more
abbrev pub TakesBack : Sent → EndFacts → State → Answer → ℕ → State → Type 0
TakesBack (sent.Bytes n) facts before answer written after =
    (answer ≡ Again) × (written ≡ n) × (after
    ≡ record {
      facts = facts;
      waiting = drop n before.waiting;
      moved = true;
      ended = before.ended;
    })
TakesBack sent.Pause facts before answer written after =
    (answer ≡ Keep) × (written ≡ 0) × (after ≡ record before { facts = facts })
TakesBack sent.Failed facts before answer written after =
    (answer ≡ Close) × (written ≡ 0) × (after
    ≡ record before { facts = facts; ended = Some end.Failed })

-- it makes one write, of all the bytes that wait
pub record WritesOnce (before : State) (answer : Answer) (written : ℕ) (after : State) : Type 0
  where
    pub took : Sent
    pub facts : EndFacts
    pub writes : EndWrites before.facts before.waiting took facts
    pub leaves : TakesBack took facts before answer written after

-- what comes of a read, by its answer: its bytes are written back
abbrev pub TakesRead : Got → List ℕ → EndFacts → State → Answer → ℕ → ℕ → State → Type 0
TakesRead (got.Bytes n) buffer facts before answer read written after =
    (read ≡ n) × WritesOnce (record {
      facts = facts;
      waiting = take n buffer;
      moved = true;
      ended = before.ended;
    }) answer written after
TakesRead got.Pause buffer facts before answer read written after =
    DoesNothing (record before { facts = facts }) answer read written after
TakesRead got.Over buffer facts before answer read written after =
    ClosesAs end.End (record before { facts = facts }) answer read written after
TakesRead got.Failed buffer facts before answer read written after =
    ClosesAs end.Failed (record before { facts = facts }) answer read written after

-- it makes one read, of at most 4,096 bytes
pub record ReadsOnce (before : State) (answer : Answer) (read written : ℕ) (after : State) : Type 0
  where
    pub gave : Got
    pub buffer : List ℕ
    pub room : length buffer ≡ 4096
    pub facts : EndFacts
    pub reads : EndReads before.facts buffer gave facts
    pub takes : TakesRead gave buffer facts before answer read written after

-- at input it reads, but only if none wait; when it may write it does so if some wait
abbrev pub ServesInput : Bool → State → Answer → ℕ → ℕ → State → Type 0
ServesInput true before answer read written after = ReadsOnce before answer read written after
ServesInput false before answer read written after = DoesNothing before answer read written after

abbrev pub ServesOutput : Bool → State → Answer → ℕ → ℕ → State → Type 0
ServesOutput true before answer read written after = DoesNothing before answer read written after
ServesOutput false before answer read written after =
    (read ≡ 0) × WritesOnce before answer written after

-- at a timeout it closes itself if no byte went either way since the one before
abbrev pub ServesTimeout : Bool → State → Answer → ℕ → ℕ → State → Type 0
ServesTimeout true before answer read written after =
    DoesNothing (record before { moved = false }) answer read written after
ServesTimeout false before answer read written after =
    ClosesAs end.Idle before answer read written after

abbrev pub Serves : Upcall → State → Answer → ℕ → ℕ → State → Type 0
Serves Input before answer read written after =
    ServesInput (none_wait before.waiting) before answer read written after
Serves Output before answer read written after =
    ServesOutput (none_wait before.waiting) before answer read written after
Serves (Timeout timer) before answer read written after =
    ServesTimeout before.moved before answer read written after
Serves Except before answer read written after = DoesNothing before answer read written after
Serves (Notice kind) before answer read written after = DoesNothing before answer read written after

-- ---- what the turns come to

-- how many bytes a turn read and wrote back, by its note
abbrev pub read_in : Item EchoNote → ℕ
read_in item = elim item.note [ note.Moved read written ↦ read | _ ↦ 0 ]

abbrev pub written_in : Item EchoNote → ℕ
written_in item = elim item.note [ note.Moved read written ↦ written | _ ↦ 0 ]

-- these bytes were written and no others, if it is told
abbrev pub IsWritten : Option (List ℕ) → List ℕ → Type 0
IsWritten None bytes = Unit {0}
IsWritten (Some written) bytes = written ≡ bytes

-- Bytes went back: of those that the end gave, in order, the first were written to it, and nothing
-- else was. The others wait.
pub record WentBack (waiting : List ℕ) (e : EndFacts) : Type 0 where
  pub back : List ℕ
  pub given : HasGiven e.bytes (back ++ waiting)
  pub gave : e.gave ≡ length (back ++ waiting)
  pub written : IsWritten e.written back

-- What stands behind how it ended, if it did so itself: `End` at the end of its input, all of which
-- went back; `Failed` if a call failed. While it goes on its input is not at its end.
abbrev pub EndedSo : Option Ending → List ℕ → EndFacts → Type 0
EndedSo None waiting e = e.over ≡ false
EndedSo (Some end.End) waiting e = (e.over ≡ true) × (waiting ≡ [])
EndedSo (Some end.Failed) waiting e = (e.over ≡ false) × (1 ≤ e.faults)
EndedSo (Some end.Idle) waiting e = e.over ≡ false
EndedSo (Some end.Stopped) waiting e = ⊥
EndedSo (Some end.Refused) waiting e = ⊥

-- what the turns come to of a connection whose end was new
pub record Echoes (had : List (Item EchoNote)) (s : State) : Type 0 where
  pub went : WentBack s.waiting s.facts
  -- the notes tell how many bytes were read and written back
  pub noted_read : s.facts.gave ≡ sum_by read_in had
  pub noted_written : length went.back ≡ sum_by written_in had
  pub ended : EndedSo s.ended s.waiting s.facts
  -- it ended itself exactly if its last answer was Close
  pub goes_on : NoClose had → s.ended ≡ None
  pub closed : EndsInClose had → IsSome s.ended

-- the word of its closing, by the reason for which it is closed and how it ended itself
abbrev pub IsClosing : Why → Option Ending → Ending → Type 0
IsClosing why.Own ended word = ended ≡ Some word
IsClosing why.Removed ended word = word ≡ end.Stopped
IsClosing why.Refused ended word = word ≡ end.Refused
