-- What ends over completion handlers mean by their turns: which turns they have had, and what they
-- leave.
use Rattle.std.specs.Prelude.{
  ◌≡◌,
  ◌||◌,
  ℕ,
  Bool,
  true,
  false,
  not,
  List,
  [],
  ◌++◌,
  Option,
  Some,
  None,
}
use Rattle.ev_base.specs.ev_types.specs.declared.upcall.Answer.{Answer}
use Rattle.ev_base.specs.ev_types.specs.declared.upcall.Answer.TheVariants.{Close}
use Rattle.ev_base.specs.ev_types.specs.declared.upcall.Mask.{Mask}
use Rattle.ev_base.specs.ev_types.specs.declared.upcall.Upcall.{Upcall}
use Rattle.ev_base.specs.ev_types.specs.declared.upcall.Upcall.TheVariants.{Input, Output}
use Rattle.ev_base.specs.ev_types.specs.declared.upcall.Why.{Why}
use Rattle.ev_base.specs.ev_types.specs.declared.upcall.Why.TheVariants.{Own}
use Rattle.ev_base.specs.Terms.{Terms}
use Rattle.ev_base.specs.End.{EndFacts, IsFresh}
use Rattle.ev_base.specs.declared.end.PeerEnd.{Ghosts}
use Rattle.reactor_model.specs.reactor_journal.specs.Event.{Item}
use Rattle.reactor_model.specs.Handling.{Handling, Deed, Masking}
use Rattle.reactor_model.specs.declared.handler.Act.{Act}
use Rattle.reactor_model.specs.declared.handler.Act.TheVariants.{MaskMine}
use Rattle.reactor_model.specs.declared.handler.Turn.{Turn}
use Rattle.proactor.specs.declared.asynch_end.AsynchEnd.{AsynchEnd}
use Rattle.proactor.specs.declared.note.AsynchNote.{AsynchNote}
use Rattle.proactor.specs.declared.operation.Op.{Op}
use Rattle.proactor.specs.Operations.{IsOp, Told}
use Rattle.proactor.specs.Account.{Accounts, CompletesAll}
use Rattle.proactor.specs.Events.{Event, ends, some_of, starves, told}
use Rattle.proactor.specs.Queues.{none_stand}
use Rattle.proactor.specs.Sums.{no_sums, note_of}
use Rattle.proactor.specs.Turns.{State, Cancels, Course, NotesSo, Serves, answer_to, at_start}
use Rattle.proactor.specs.Turns.{OnlyLast, count_standing}
use Rattle.proactor.specs.Parts.{FollowsTold, IsSummed, end_of, handler_of, number_of, standing_of}
use Rattle.proactor.specs.Parts.{state_of, sums_of}

-- ---- masks

-- reports to read, and to write too if a write stands
abbrev pub mask_by : Bool → Mask
mask_by writing = record { read = true; write = writing; except = false }

-- what the reactor is asked for after a turn with this answer, before which a write stood or not,
-- and after which one does or not
abbrev pub change_by : Answer → Bool → Bool → Option Mask
change_by Close was is = None
change_by _ false true = Some (mask_by true)
change_by _ true false = Some (mask_by false)
change_by _ true true = None
change_by _ false false = None

abbrev pub masking : {H N E : Type 0} → Option Mask → Option (Act H N E)
masking None = None
masking (Some mask) = Some (MaskMine mask)

-- ---- turns

-- One turn of an end: what happened, and what it answers, notes and asks for.
pub record MakesTurn {E C : Type 0} {G : Ghosts E} (tells : E → EndFacts)
    (keeps : Terms → E → Type 0) (follows : C → Op → List Told → Type 0) (up : Upcall)
    (old new : AsynchEnd E C G) (turn : Turn (AsynchEnd E C G) AsynchNote E) : Type 0 where
  pub events : List Event
  pub serves : Serves up (state_of tells old) events (state_of tells new)
  pub answers : turn.answer ≡ answer_to events
  pub sums : IsSummed events (sums_of old) (sums_of new)
  pub notes : turn.note ≡ note_of (number_of old) 0 (sums_of new)
  pub masks : turn.act ≡ masking (change_by turn.answer
      (not (none_stand (standing_of old).writes)) (not (none_stand (standing_of new).writes)))
  pub told_so : FollowsTold follows (told events) (handler_of old) (handler_of new)
  pub number : number_of new ≡ number_of old
  pub end : (t : Terms) → keeps t (end_of old) → keeps t (end_of new)

-- An end with this number and first operation had these turns, since it was new: all that happened,
-- and where it stands.
pub record HadTurns (conn : ℕ) (first : Op) (had : List (Item AsynchNote)) (all : List Event)
    (s : State) : Type 0 where
  pub operation : IsOp first
  pub start : EndFacts
  pub fresh : IsFresh start
  pub course : Course conn [] (at_start start first) had all s
  pub only_last : OnlyLast had

-- it has had these turns
pub record AsynchFits {E C : Type 0} {G : Ghosts E} (tells : E → EndFacts)
    (keeps : Terms → E → Type 0) (follows : C → Op → List Told → Type 0) (t : Terms)
    (handler : AsynchEnd E C G) (had : List (Item AsynchNote)) : Type 0 where
  pub first : Op
  pub all : List Event
  pub turns : HadTurns (number_of handler) first had all (state_of tells handler)
  pub accounts : Accounts first all (state_of tells handler)
  pub sums : IsSummed all no_sums (sums_of handler)
  pub told_so : follows (handler_of handler) first (told all)
  pub kept_end : keeps t (end_of handler)

-- What an end leaves that had these turns: the operations that stood were cancelled, and the note
-- counts all that happened. If it closed itself the handler was done, an operation failed, or
-- there was no memory.
pub record AsynchGone {E C : Type 0} (tells : E → EndFacts) (keeps : Terms → E → Type 0)
    (follows : C → Op → List Told → Type 0) (t : Terms)
    (end : E) (had : List (Item AsynchNote)) (reason : Why) (said : AsynchNote) : Type 0 where
  pub conn : ℕ
  pub first : Op
  pub all : List Event
  pub last : State
  pub turns : HadTurns conn first had all last
  pub accounts : Accounts first all last
  pub ended : reason ≡ Own → some_of ends all || some_of starves all ≡ true
  pub facts : last.facts ≡ tells end
  pub closing : List Event
  pub cancels : Cancels last.standing.reads last.standing.writes closing
  pub completes : CompletesAll first (all ++ closing)
  pub notes : NotesSo conn (all ++ closing) (count_standing last.standing) (some_of starves all)
      said
  pub handler : C
  pub told_so : follows handler first (told (all ++ closing))
  pub kept_end : keeps t end

-- which acts a turn may carry: at input and output a mask is asked for
abbrev pub AsynchMay : Upcall → Deed → Type 0
AsynchMay Input Masking = Unit {0}
AsynchMay Output Masking = Unit {0}
AsynchMay up deed = ⊥

abbrev pub asynch_ends : {E C : Type 0} {G : Ghosts E} → (E → EndFacts) → (Terms → E → Type 0)
    → (C → Op → List Told → Type 0) → Handling (AsynchEnd E C G) E AsynchNote
asynch_ends tells keeps follows = record {
  fits = λ t origin handler had. AsynchFits tells keeps follows t handler had;
  gone = λ t origin end had why said. AsynchGone tells keeps follows t end had why said;
  may = λ t up deed. AsynchMay up deed;
  installs = λ said. false;
  serial = λ t origin. None;
}
