-- What a connector means by its turns: which turns it has had, and what it leaves.
use Rattle.std.specs.Prelude.{◌≡◌, ◌≤◌, ℕ, Bool, true, false, List, Option, Some, None}
use Rattle.ev_base.specs.ev_types.specs.declared.upcall.Answer.{Answer}
use Rattle.ev_base.specs.ev_types.specs.declared.upcall.Answer.TheVariants.{Keep, Close}
use Rattle.ev_base.specs.ev_types.specs.declared.upcall.Upcall.{Upcall}
use Rattle.ev_base.specs.ev_types.specs.declared.upcall.Upcall.TheVariants.{Input, Output, Except}
use Rattle.ev_base.specs.ev_types.specs.declared.upcall.Upcall.TheVariants.{Timeout, Notice}
use Rattle.ev_base.specs.ev_types.specs.declared.upcall.Why.{Why}
use Rattle.ev_base.specs.Counts.{Counts}
use Rattle.ev_base.specs.Terms.{Terms}
use Rattle.ev_base.specs.End.{EndFacts, EndFinishes, WroteNothing}
use Rattle.ev_base.specs.declared.dial.Finish.{Finish}
use Rattle.ev_base.specs.declared.dial.Finish.TheVariants as finish
use Rattle.ev_base.specs.declared.end.PeerEnd.{Ghosts}
use Rattle.reactor_model.specs.reactor_journal.specs.Event.{Item}
use Rattle.reactor_model.specs.Handling.{Handling}
use Rattle.connector.specs.Connecting.{Progress, Course, at_start, answer_to, note_of, is_done}
use Rattle.connector.specs.Serving.{IsSameDial, AddsTurn}
use Rattle.connector.specs.declared.note.ConnectNote.{ConnectNote}
use Rattle.connector.specs.declared.note.ConnectNote.TheVariants as note
use Rattle.connector.specs.declared.connector.Connector.{Connector}

-- its end, its service, and whether its connection is made
abbrev pub end_of : {E V : Type 0} {G : Ghosts E} → Connector E V G → E
end_of connector = connector.peer.end

abbrev pub service_of : {E V : Type 0} {G : Ghosts E} → Connector E V G → V
service_of connector = connector.service

abbrev pub is_connected : {E V : Type 0} {G : Ghosts E} → Connector E V G → Bool
is_connected connector = connector.connected

-- nothing was read from an end and nothing written to it
pub record MovedNothing (e : EndFacts) : Type 0 where
  pub reads : e.reads ≡ 0
  pub gave : e.gave ≡ 0
  pub writes : e.writes ≡ 0
  pub last_write : e.last_write ≡ None
  pub written : WroteNothing e.written

-- a question that failed is a fault
abbrev pub HasFailed : Option Finish → ℕ → Type 0
HasFailed (Some finish.Failed) faults = 1 ≤ faults
HasFailed _ faults = Unit {0}

-- What the end of a connector tells that has come so far: it was asked as often as the connector
-- says whether its connection is made, the last time with that answer, and until then nothing was
-- read or written.
pub record HasDialled {N : Type 0} (p : Progress N) (e : EndFacts) : Type 0 where
  pub no_listener : e.listener ≡ false
  pub finishes : Counts e.finishes p.tries
  pub last_finish : e.last_finish ≡ p.last_try
  pub made : p.connected ≡ true → p.last_try ≡ Some finish.Done
  pub failed : HasFailed p.last_try e.faults
  pub unused : p.connected ≡ false → MovedNothing e

-- The connector has had these turns: its end tells what they did, and its service had those that
-- were live.
pub record ConnectorFits {E V N : Type 0} {G : Ghosts E} (tells : E → EndFacts)
    (keeps : Terms → E → Type 0) (serves : Terms → V → E → List (Item N) → Type 0) (t : Terms)
    (connector : Connector E V G) (had : List (Item (ConnectNote N))) : Type 0 where
  pub now : Progress N
  pub course : Course at_start had now
  pub connected : is_connected connector ≡ now.connected
  pub dialled : HasDialled now (tells (end_of connector))
  pub has_served : serves t (service_of connector) (end_of connector) now.live
  pub kept_end : keeps t (end_of connector)

-- what a connector leaves that had these turns: its end, and the note that it was closed
pub record ConnectorGone {E V N : Type 0} (tells : E → EndFacts) (keeps : Terms → E → Type 0)
    (serves : Terms → V → E → List (Item N) → Type 0) (t : Terms)
    (end : E) (had : List (Item (ConnectNote N))) (reason : Why) (said : ConnectNote N) : Type 0
  where
    pub now : Progress N
    pub course : Course at_start had now
    pub dialled : HasDialled now (tells end)
    pub service : V
    pub has_served : serves t service end now.live
    pub notes : said ≡ note.Shut
    pub kept_end : keeps t end

-- what connectors mean by their turns. No turn carries an act.
abbrev pub connectors : {E V N : Type 0} {G : Ghosts E} → (E → EndFacts) → (Terms → E → Type 0)
    → (Terms → V → E → List (Item N) → Type 0) → Handling (Connector E V G) E (ConnectNote N)
connectors tells keeps serves = record {
  fits = λ t origin connector had. ConnectorFits tells keeps serves t connector had;
  gone = λ t origin end had why said. ConnectorGone tells keeps serves t end had why said;
  may = λ t up deed. ⊥;
  installs = λ said. false;
  serial = λ t origin. None;
}

-- ---- one turn, of the code

-- it asked its end once whether the connection is made, and answers so
pub record AsksEnd {E V N : Type 0} {G : Ghosts E} (tells : E → EndFacts)
    (old new : Connector E V G) (turn : Answer × ConnectNote N) : Type 0 where
  pub came : Finish
  pub finishes : EndFinishes (tells (end_of old)) came (tells (end_of new))
  pub turns : turn ≡ (answer_to came, note_of came)
  pub connected : is_connected new ≡ is_done came
  pub service : service_of new ≡ service_of old

-- its service made one turn on its end
pub record LetsServe {E V N : Type 0} {G : Ghosts E} (tells : E → EndFacts)
    (keeps : Terms → E → Type 0) (serves : Terms → V → E → List (Item N) → Type 0) (up : Upcall)
    (now : ℕ)
    (old new : Connector E V G) (turn : Answer × ConnectNote N) : Type 0 where
  pub said : N
  pub notes : turn.1 ≡ note.Live said
  pub adds : (t : Terms) → AddsTurn (serves t (service_of old) (end_of old)) (keeps t (end_of old))
      up now (turn.0, said) (serves t (service_of new) (end_of new))
  pub same : IsSameDial (tells (end_of old)) (tells (end_of new))
  pub connected : is_connected new ≡ is_connected old

-- one turn while it waits, and once it is connected
abbrev pub DoesWaiting : {E V N : Type 0} {G : Ghosts E} → (E → EndFacts) → Upcall → ℕ
    → Connector E V G → Connector E V G → Answer × ConnectNote N → Type 0
DoesWaiting tells Output now old new turn = AsksEnd tells old new turn
DoesWaiting tells (Timeout timer) now old new turn =
    (turn ≡ (Close, note.TimedOut now)) × (new ≡ old)
DoesWaiting tells Input now old new turn = (turn ≡ (Keep, note.Waiting)) × (new ≡ old)
DoesWaiting tells Except now old new turn = (turn ≡ (Keep, note.Waiting)) × (new ≡ old)
DoesWaiting tells (Notice kind) now old new turn = (turn ≡ (Keep, note.Waiting)) × (new ≡ old)

abbrev pub DoesConnected : {E V N : Type 0} {G : Ghosts E} → (E → EndFacts) → (Terms → E → Type 0)
    → (Terms → V → E → List (Item N) → Type 0) → Upcall → ℕ →
    Connector E V G → Connector E V G → Answer × ConnectNote N → Type 0
DoesConnected tells keeps serves (Timeout timer) now old new turn =
    (turn ≡ (Keep, note.Waiting)) × (new ≡ old)
DoesConnected tells keeps serves Input now old new turn =
    LetsServe tells keeps serves Input now old new turn
DoesConnected tells keeps serves Output now old new turn =
    LetsServe tells keeps serves Output now old new turn
DoesConnected tells keeps serves Except now old new turn =
    LetsServe tells keeps serves Except now old new turn
DoesConnected tells keeps serves (Notice kind) now old new turn =
    LetsServe tells keeps serves (Notice kind) now old new turn

abbrev pub DoesTurn : {E V N : Type 0} {G : Ghosts E} → (E → EndFacts) → (Terms → E → Type 0)
    → (Terms → V → E → List (Item N) → Type 0) → Bool → Upcall → ℕ →
    Connector E V G → Connector E V G → Answer × ConnectNote N → Type 0
DoesTurn tells keeps serves true up now old new turn =
    DoesConnected tells keeps serves up now old new turn
DoesTurn tells keeps serves false up now old new turn = DoesWaiting tells up now old new turn

-- its end keeps what it kept
abbrev pub KeepsEnd : {E V : Type 0} {G : Ghosts E} → (Terms → E → Type 0) → Connector E V G
    → Connector E V G → Type 0
KeepsEnd keeps old new = (t : Terms) → keeps t (end_of old) → keeps t (end_of new)
