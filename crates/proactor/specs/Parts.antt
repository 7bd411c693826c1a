-- Parts of a turn of an end, as the code makes them.
use Rattle.std.specs.Prelude.{◌≡◌, ◌+◌, ◌||◌, ℕ, false, List, [], ◌∷◌, ◌++◌}
use Rattle.std.specs.Prelude.{length}
use Rattle.ev_base.specs.Counts.{Counts}
use Rattle.ev_base.specs.Terms.{Terms}
use Rattle.ev_base.specs.End.{EndFacts}
use Rattle.ev_base.specs.declared.end.PeerEnd.{Ghosts}
use Rattle.proactor.specs.declared.asynch_end.AsynchEnd.{AsynchEnd}
use Rattle.proactor.specs.declared.asynch_end.Step.{Step}
use Rattle.proactor.specs.declared.operation.Op.{Op}
use Rattle.proactor.specs.declared.operation.Outcome.{Outcome}
use Rattle.proactor.specs.declared.standing.Reading.{Reading}
use Rattle.proactor.specs.declared.standing.Writing.{Writing}
use Rattle.proactor.specs.declared.sums.Sums.{Sums}
use Rattle.proactor.specs.Operations.{Told}
use Rattle.proactor.specs.Events.{Event, Reply, completion, count_done, done_in, ends, given}
use Rattle.proactor.specs.Events.{is_failed, is_starved, lost_in, moves, some_of, starves, taken}
use Rattle.proactor.specs.Events.{told, told_in, up_in}
use Rattle.proactor.specs.Standing.{Stands, queued}
use Rattle.proactor.specs.Sums.{completed_sums}
use Rattle.proactor.specs.Turns.{State, CompletesRead, CompletesWrite, TakesBytes}

-- its end, its completion handler, its number, the operations that stand, and what it counted
abbrev pub end_of : {E C : Type 0} {G : Ghosts E} → AsynchEnd E C G → E
end_of handler = handler.peer.end

abbrev pub handler_of : {E C : Type 0} {G : Ghosts E} → AsynchEnd E C G → C
handler_of handler = handler.handler

abbrev pub number_of : {E C : Type 0} {G : Ghosts E} → AsynchEnd E C G → ℕ
number_of handler = handler.conn

abbrev pub standing_of : {E C : Type 0} {G : Ghosts E} → AsynchEnd E C G → Stands
standing_of handler = handler.standing

abbrev pub sums_of : {E C : Type 0} {G : Ghosts E} → AsynchEnd E C G → Sums
sums_of handler = handler.sums

-- where it stands
abbrev pub state_of : {E C : Type 0} {G : Ghosts E} → (E → EndFacts) → AsynchEnd E C G → State
state_of tells handler =
    record { facts = tells (end_of handler); standing = standing_of handler }

-- a part of a turn did this
pub record IsStep (events : List Event) (step : Step) : Type 0 where
  pub moved : step.moved ≡ some_of moves events
  pub over : step.over ≡ some_of ends events
  pub starved : step.starved ≡ some_of starves events

-- a count of so many counts so many more
abbrev pub CountsMore : ℕ → ℕ → ℕ → Type 0
CountsMore old more new = (n : ℕ) → Counts old n → Counts new (n + more)

-- these events were counted
pub record IsSummed (events : List Event) (old new : Sums) : Type 0 where
  pub read : CountsMore old.read (length (taken events)) new.read
  pub wrote : CountsMore old.wrote (length (given events)) new.wrote
  pub completed : CountsMore old.completed (count_done events) new.completed
  pub starved : new.starved ≡ old.starved || some_of starves events

-- the handler follows what it was told
abbrev pub FollowsTold : {C : Type 0} → (C → Op → List Told → Type 0) → List Told → C → C → Type 0
FollowsTold follows list old new = (first : Op) (before : List Told) → follows old first before
    → follows new first (before ++ list)

-- a part of a turn: what happened, and that all of it is as that says
pub record DoesPart {E C : Type 0} {G : Ghosts E} (tells : E → EndFacts)
    (keeps : Terms → E → Type 0) (follows : C → Op → List Told → Type 0)
    (does : State → List Event → State → Type 0)
    (old new : AsynchEnd E C G) (step : Step) : Type 0 where
  pub events : List Event
  pub done : does (state_of tells old) events (state_of tells new)
  pub step_is : IsStep events step
  pub sums : IsSummed events (sums_of old) (sums_of new)
  pub told_so : FollowsTold follows (told events) (handler_of old) (handler_of new)
  pub number : number_of new ≡ number_of old
  pub end : (t : Terms) → keeps t (end_of old) → keeps t (end_of new)

-- the handler was told of a completion, and what it asked for was queued
pub record HearsOf {E C : Type 0} {G : Ghosts E} (follows : C → Op → List Told → Type 0) (id : ℕ)
    (came : Outcome) (old new : AsynchEnd E C G) (step : Step) : Type 0 where
  pub reply : Reply
  pub standing : standing_of new ≡ queued (up_in reply) (standing_of old)
  pub moved : step.moved ≡ false
  pub over : step.over ≡ is_failed came || done_in reply
  pub starved : step.starved ≡ is_starved came || lost_in reply
  pub sums : sums_of new ≡ completed_sums step.starved (sums_of old)
  pub told_so : FollowsTold follows (told_in (completion id came) reply) (handler_of old)
      (handler_of new)
  pub number : number_of new ≡ number_of old
  pub end : end_of new ≡ end_of old

-- the first read, or write, that stands completes so
abbrev pub CompletesFirstRead : List Reading → Outcome → State → List Event → State → Type 0
CompletesFirstRead [] came before events after = ⊥
CompletesFirstRead (read ∷ rest) came before events after =
    CompletesRead read rest came before events after

abbrev pub completes_read : Outcome → State → List Event → State → Type 0
completes_read came before events after =
    CompletesFirstRead before.standing.reads came before events after

abbrev pub CompletesFirstWrite : List Writing → Outcome → State → List Event → State → Type 0
CompletesFirstWrite [] came before events after = ⊥
CompletesFirstWrite (write ∷ rest) came before events after =
    CompletesWrite write rest came before events after

abbrev pub completes_write : Outcome → State → List Event → State → Type 0
completes_write came before events after =
    CompletesFirstWrite before.standing.writes came before events after

-- so many bytes of the first write were taken
abbrev pub TakesFirstBytes : List Writing → ℕ → State → List Event → State → Type 0
TakesFirstBytes [] n before events after = ⊥
TakesFirstBytes (write ∷ rest) n before events after = TakesBytes n write rest before events after

abbrev pub takes_bytes : ℕ → State → List Event → State → Type 0
takes_bytes n before events after =
    TakesFirstBytes before.standing.writes n before events after
