-- What a connector did in the turns that it had (POSA2, Acceptor-Connector: Connector; C++NPv2
-- chapter 7, `ACE_Connector`).
use Rattle.std.specs.Prelude.{◌≡◌, ℕ, suc, Bool, true, false, List, [], ◌∷◌, ◌++◌, Option, Some}
use Rattle.std.specs.Prelude.{None}
use Rattle.ev_base.specs.ev_types.specs.declared.upcall.Answer.{Answer}
use Rattle.ev_base.specs.ev_types.specs.declared.upcall.Answer.TheVariants.{Keep, Again, Close}
use Rattle.ev_base.specs.ev_types.specs.declared.upcall.Upcall.{Upcall}
use Rattle.ev_base.specs.ev_types.specs.declared.upcall.Upcall.TheVariants.{Input, Output, Except}
use Rattle.ev_base.specs.ev_types.specs.declared.upcall.Upcall.TheVariants.{Timeout, Notice}
use Rattle.ev_base.specs.declared.dial.Finish.{Finish}
use Rattle.ev_base.specs.declared.dial.Finish.TheVariants as finish
use Rattle.reactor_model.specs.reactor_journal.specs.Event.{Item}
use Rattle.connector.specs.declared.note.ConnectNote.{ConnectNote}
use Rattle.connector.specs.declared.note.ConnectNote.TheVariants as note

-- how far a connector has come
pub record Progress (N : Type 0) : Type 0 where
  -- whether its connection is made
  pub connected : Bool
  -- how often it asked for that, and what the last answer was
  pub tries : ℕ
  pub last_try : Option Finish
  -- the turns of its service
  pub live : List (Item N)

abbrev pub at_start : {N : Type 0} → Progress N
at_start = record { connected = false; tries = 0; last_try = None; live = [] }

-- ---- while it waits

abbrev pub is_done : Finish → Bool
is_done finish.Done = true
is_done _ = false

-- one more question, with this answer
abbrev pub asked : {N : Type 0} → Finish → Progress N → Progress N
asked answer p = record p {
  connected = is_done answer;
  tries = suc p.tries;
  last_try = Some answer;
}

abbrev pub answer_to : Finish → Answer
answer_to finish.Done = Again
answer_to finish.Pause = Keep
answer_to finish.Failed = Close

abbrev pub note_of : {N : Type 0} → Finish → ConnectNote N
note_of finish.Done = note.Connected
note_of finish.Pause = note.Waiting
note_of finish.Failed = note.Failed

-- a turn with this answer and note, which leads here
pub record IsTurn {N : Type 0} (answer : Answer) (said : ConnectNote N) (leads : Progress N)
    (item : Item (ConnectNote N)) (after : Progress N) : Type 0 where
  pub answers : item.answer ≡ answer
  pub notes : item.note ≡ said
  pub leaves : after ≡ leads

-- it asks once whether the connection is made
pub record AsksOnce {N : Type 0} (before : Progress N) (item : Item (ConnectNote N))
    (after : Progress N) : Type 0 where
  pub came : Finish
  pub turn : IsTurn (answer_to came) (note_of came) (asked came before) item after

-- one turn while it waits: at output it asks whether the connection is made, a timeout ends it, and
-- every other upcall is answered Keep
abbrev pub Awaits : {N : Type 0} → Upcall → Progress N → Item (ConnectNote N) → Progress N → Type 0
Awaits Output before item after = AsksOnce before item after
Awaits (Timeout timer) before item after =
    IsTurn Close (note.TimedOut item.moment) before item after
Awaits Input before item after = IsTurn Keep note.Waiting before item after
Awaits Except before item after = IsTurn Keep note.Waiting before item after
Awaits (Notice kind) before item after = IsTurn Keep note.Waiting before item after

-- ---- once it is connected

-- a turn of its service with this note
abbrev pub served : {N : Type 0} → Item (ConnectNote N) → N → Item N
served item said = record {
  upcall = item.upcall;
  moment = item.moment;
  answer = item.answer;
  note = said;
}

-- it makes one turn of its service
pub record ServesOnce {N : Type 0} (before : Progress N) (item : Item (ConnectNote N))
    (after : Progress N) : Type 0 where
  pub said : N
  pub notes : item.note ≡ note.Live said
  pub leaves : after ≡ record before { live = before.live ++ served item said ∷ [] }

-- one turn once it is connected: a timeout changes nothing, and every other upcall goes to its
-- service
abbrev pub Serves : {N : Type 0} → Upcall → Progress N → Item (ConnectNote N) → Progress N → Type 0
Serves (Timeout timer) before item after = IsTurn Keep note.Waiting before item after
Serves Input before item after = ServesOnce before item after
Serves Output before item after = ServesOnce before item after
Serves Except before item after = ServesOnce before item after
Serves (Notice kind) before item after = ServesOnce before item after

-- ---- all turns

abbrev pub TurnsBy : {N : Type 0} → Bool → Upcall → Progress N → Item (ConnectNote N) → Progress N
    → Type 0
TurnsBy true up before item after = Serves up before item after
TurnsBy false up before item after = Awaits up before item after

-- one turn, by whether it is connected and by the upcall
abbrev pub Turns : {N : Type 0} → Progress N → Item (ConnectNote N) → Progress N → Type 0
Turns before item after = TurnsBy before.connected item.upcall before item after

-- turns one after another, each from where the one before left it
abbrev pub Course : {N : Type 0} → Progress N → List (Item (ConnectNote N)) → Progress N → Type 0
Course start [] p = p ≡ start
Course {N} start (item ∷ items) p =
    (next : Progress N) × Turns start item next × Course next items p
