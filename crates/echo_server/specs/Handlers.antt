-- What the handlers of the echo server mean by their turns: an acceptor and the connections that it
-- takes.
use Rattle.std.specs.Prelude.{◌≡◌, ◌⊎◌, ℕ, Bool, true, false, List, Option, Some, None, IsSome}
use Rattle.reactor.specs.ev_types.specs.declared.upcall.Answer.{Answer}
use Rattle.reactor.specs.ev_types.specs.declared.upcall.Answer.TheVariants.{Keep, Again, Close}
use Rattle.reactor.specs.ev_types.specs.declared.upcall.Mask.{Mask}
use Rattle.reactor.specs.ev_types.specs.declared.upcall.Upcall.{Upcall}
use Rattle.reactor.specs.ev_types.specs.declared.upcall.Upcall.TheVariants.{Input, Output, Except}
use Rattle.reactor.specs.ev_types.specs.declared.upcall.Upcall.TheVariants.{Timeout, Notice}
use Rattle.reactor.specs.ev_types.specs.declared.upcall.Why.{Why}
use Rattle.reactor.specs.ev_base.specs.Terms.{Terms}
use Rattle.reactor.specs.ev_base.specs.End.{EndFacts, Accepts, KeptByGiven}
use Rattle.reactor.specs.ev_base.specs.declared.end.PeerEnd.{Ghosts}
use Rattle.reactor.specs.ev_base.specs.declared.end.Taken.{Taken}
use Rattle.reactor.specs.ev_base.specs.declared.end.Taken.TheVariants as taken
use Rattle.reactor.specs.reactor_journal.specs.Event.{Item}
use Rattle.reactor.specs.reactor_model.specs.Handling.{Handling, Deed, Installing, Masking}
use Rattle.reactor.specs.reactor_model.specs.Handling.{Stopping}
use Rattle.reactor.specs.reactor_model.specs.declared.handler.Turn.{Turn}
use Rattle.reactor.specs.reactor_model.specs.declared.handler.Act.{Act}
use Rattle.reactor.specs.reactor_model.specs.declared.handler.Act.TheVariants.{Install, MaskMine}
use Rattle.reactor.specs.reactor_model.specs.declared.handler.Act.TheVariants.{Stop}
use Rattle.echo_server.specs.Echo.{Serves, at_start, some_wait}
use Rattle.echo_server.specs.Connections.{ConnectionFits, ConnectionGone, KeepsEnd}
use Rattle.echo_server.specs.Connections.{end_of_connection, state_of, waiting_in}
use Rattle.echo_server.specs.declared.note.EchoNote.{EchoNote}
use Rattle.echo_server.specs.declared.note.EchoNote.TheVariants as note
use Rattle.echo_server.specs.declared.connection.EchoConnection.{EchoConnection}
use Rattle.echo_server.specs.declared.acceptor.EchoAcceptor.{EchoAcceptor}
use Rattle.echo_server.specs.declared.handler.EchoHandler.{EchoHandler}
use Rattle.echo_server.specs.declared.handler.EchoHandler.TheVariants.{Listen, Talk}

-- the reports of a listener and of a connection none of whose bytes wait; and of one some of whose
-- bytes do
abbrev pub read_alone : Mask
read_alone = record { read = true; write = false; except = false }

abbrev pub write_alone : Mask
write_alone = record { read = false; write = true; except = false }

-- ---- an acceptor

abbrev pub listener_of : {E : Type 0} {G : Ghosts E} → EchoAcceptor E G → E
listener_of acceptor = acceptor.listener.end

abbrev pub idle_of : {E : Type 0} {G : Ghosts E} → EchoAcceptor E G → ℕ
idle_of acceptor = acceptor.idle.time

-- the timer of a connection with this idle time, as first delay and period: it comes due each time
-- that so much has gone by
abbrev pub idle_timer : ℕ → ℕ × ℕ
idle_timer idle = (idle, idle)

-- a turn of these parts
pub record IsTurn {E : Type 0} {G : Ghosts E} (answer : Answer) (said : EchoNote)
    (act : Option (Act (EchoHandler E G) EchoNote E))
    (turn : Turn (EchoHandler E G) EchoNote E) : Type 0 where
  pub answers : turn.answer ≡ answer
  pub notes : turn.note ≡ said
  pub acts : turn.act ≡ act

-- a turn that offers the handler of a connection over this end, at its start, to be
-- read and with a timer
pub record OffersConnection {E : Type 0} {G : Ghosts E} (tells : E → EndFacts) (idle : ℕ) (end : E)
    (turn : Turn (EchoHandler E G) EchoNote E) : Type 0 where
  pub handler : EchoConnection E G
  pub its_end : end_of_connection handler ≡ end
  pub state : state_of tells handler ≡ at_start (tells end)
  pub turns : IsTurn Again note.Accepted
      (Some (Install (Talk handler) read_alone (Some (idle_timer idle)))) turn

-- what comes of an accept
abbrev pub TakesAccept : {E : Type 0} {G : Ghosts E} → (E → EndFacts) → ℕ → Taken E
    → Turn (EchoHandler E G) EchoNote E → Type 0
TakesAccept tells idle (taken.One end) turn = OffersConnection tells idle end turn
TakesAccept tells idle taken.Pause turn = IsTurn Keep note.NoneWaiting None turn
TakesAccept tells idle taken.Failed turn = IsTurn Keep note.ListenerFailed None turn

-- it makes one accept
pub record AcceptsOnce {E : Type 0} {G : Ghosts E} (tells : E → EndFacts)
    (keeps : Terms → E → Type 0) (old new : EchoAcceptor E G)
    (turn : Turn (EchoHandler E G) EchoNote E) : Type 0 where
  pub came : Taken E
  pub accepts : Accepts tells (tells (listener_of old)) came (tells (listener_of new))
  pub given : (t : Terms) → keeps t (listener_of old) → KeptByGiven (keeps t) came
  pub takes : TakesAccept tells (idle_of old) came turn

-- one turn of an acceptor: it accepts at input, and a notice stops the reactor
abbrev pub ServesListener : {E : Type 0} {G : Ghosts E} → (E → EndFacts) → (Terms → E → Type 0)
    → Upcall → EchoAcceptor E G → EchoAcceptor E G → Turn (EchoHandler E G) EchoNote E → Type 0
ServesListener tells keeps Input old new turn = AcceptsOnce tells keeps old new turn
ServesListener tells keeps (Notice kind) old new turn =
    IsTurn Keep note.NoneWaiting (Some Stop) turn × (new ≡ old)
ServesListener tells keeps Output old new turn =
    IsTurn Keep note.NoneWaiting None turn × (new ≡ old)
ServesListener tells keeps Except old new turn =
    IsTurn Keep note.NoneWaiting None turn × (new ≡ old)
ServesListener tells keeps (Timeout timer) old new turn =
    IsTurn Keep note.NoneWaiting None turn × (new ≡ old)

-- its idle time stays, and its listener keeps what it kept
pub record KeepsListener {E : Type 0} {G : Ghosts E} (keeps : Terms → E → Type 0)
    (old new : EchoAcceptor E G) : Type 0 where
  pub idle : idle_of new ≡ idle_of old
  pub kept : (t : Terms) → keeps t (listener_of old) → keeps t (listener_of new)

-- ---- a connection

-- From the first bytes on that it could not write back a connection wants to write, and to read
-- again once they are written.
abbrev pub mask_after : Answer → Bool → Bool → Option Mask
mask_after Close waited waits = None
mask_after _ false true = Some write_alone
mask_after _ true false = Some read_alone
mask_after _ true true = None
mask_after _ false false = None

abbrev pub masking : {H N E : Type 0} → Option Mask → Option (Act H N E)
masking None = None
masking (Some mask) = Some (MaskMine mask)

-- one turn of a connection, with the mask that it asks for
pub record ServesConnection {E : Type 0} {G : Ghosts E} (tells : E → EndFacts)
    (keeps : Terms → E → Type 0) (up : Upcall) (old new : EchoConnection E G)
    (turn : Turn (EchoHandler E G) EchoNote E) : Type 0 where
  pub read : ℕ
  pub written : ℕ
  pub notes : turn.note ≡ note.Moved read written
  pub serves : Serves up (state_of tells old) turn.answer read written (state_of tells new)
  pub masks : turn.act ≡ masking (mask_after turn.answer (some_wait (waiting_in old))
      (some_wait (waiting_in new)))
  pub end : KeepsEnd keeps old new

-- ---- both

abbrev pub ServesHandler : {E : Type 0} {G : Ghosts E} → (E → EndFacts) → (Terms → E → Type 0)
    → Upcall → EchoHandler E G → EchoHandler E G →
    Turn (EchoHandler E G) EchoNote E → Type 0
ServesHandler tells keeps up (Listen old) (Listen new) turn =
    ServesListener tells keeps up old new turn
ServesHandler tells keeps up (Talk old) (Talk new) turn =
    ServesConnection tells keeps up old new turn
ServesHandler tells keeps up (Listen old) (Talk new) turn = ⊥
ServesHandler tells keeps up (Talk old) (Listen new) turn = ⊥

abbrev pub end_of : {E : Type 0} {G : Ghosts E} → EchoHandler E G → E
end_of (Listen acceptor) = listener_of acceptor
end_of (Talk connection) = end_of_connection connection

-- if the terms have an idle time, it is that of an acceptor's connections
pub record ListenerFits {E : Type 0} {G : Ghosts E} (tells : E → EndFacts)
    (keeps : Terms → E → Type 0) (t : Terms) (acceptor : EchoAcceptor E G) : Type 0 where
  pub listener : (tells (listener_of acceptor)).listener ≡ true
  pub waits : (time : Option ℕ) → t.idle ≡ Some time → time ≡ Some (idle_of acceptor)
  pub kept_end : keeps t (listener_of acceptor)

-- the handler has had these turns
abbrev pub HandlerFits : {E : Type 0} {G : Ghosts E} → (E → EndFacts) → (Terms → E → Type 0) → Terms
    → EchoHandler E G → List (Item EchoNote) → Type 0
HandlerFits tells keeps t (Listen acceptor) had = ListenerFits tells keeps t acceptor
HandlerFits tells keeps t (Talk connection) had = ConnectionFits tells keeps t connection had

-- what it leaves: its listener, or the end of a connection
pub record ListenerGone {E : Type 0} (tells : E → EndFacts) (keeps : Terms → E → Type 0) (t : Terms)
    (end : E) (said : EchoNote) : Type 0 where
  pub listener : (tells end).listener ≡ true
  pub notes : said ≡ note.ListenerShut
  pub kept_end : keeps t end

abbrev pub HandlerGone : {E : Type 0} → (E → EndFacts) → (Terms → E → Type 0) → Terms → E
    → List (Item EchoNote) → Why → EchoNote → Type 0
HandlerGone tells keeps t end had reason said =
    ListenerGone tells keeps t end said ⊎ ConnectionGone tells keeps t end had reason said

-- a connection is offered to be read, with a timer, which is that of the idle time if the terms
-- have one
pub record MayOffer (t : Terms) (mask : Mask) (timer : Option (ℕ × ℕ)) : Type 0 where
  pub reads : mask ≡ read_alone
  pub timed : IsSome timer
  pub waits : (time : ℕ) → t.idle ≡ Some (Some time) → timer ≡ Some (idle_timer time)

-- which acts a turn may carry: at input a connection is offered so, and at input and output a mask
-- is asked for; a notice stops the reactor
abbrev pub HandlerMay : Terms → Upcall → Deed → Type 0
HandlerMay t Input (Installing mask timer) = MayOffer t mask timer
HandlerMay t Input Masking = Unit {0}
HandlerMay t Output Masking = Unit {0}
HandlerMay t (Notice kind) Stopping = Unit {0}
HandlerMay t up deed = ⊥

abbrev pub is_accepted : EchoNote → Bool
is_accepted note.Accepted = true
is_accepted _ = false

abbrev pub handlers : {E : Type 0} {G : Ghosts E} → (E → EndFacts) → (Terms → E → Type 0)
    → Handling (EchoHandler E G) E EchoNote
handlers tells keeps = record {
  fits = λ t origin handler had. HandlerFits tells keeps t handler had;
  gone = λ t origin end had why said. HandlerGone tells keeps t end had why said;
  may = λ t up deed. HandlerMay t up deed;
  installs = is_accepted;
  serial = λ t origin. None;
}
