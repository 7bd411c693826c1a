-- What the handlers of the logging server mean by their turns: the acceptor, and the connections
-- that it takes.
use Rattle.std.specs.Prelude.{◌≡◌, ◌⊎◌, ℕ, Bool, true, false, List, Option, Some}
use Rattle.ev_base.specs.ev_types.specs.declared.upcall.Mask.{Mask}
use Rattle.ev_base.specs.ev_types.specs.declared.upcall.Upcall.{Upcall}
use Rattle.ev_base.specs.ev_types.specs.declared.upcall.Upcall.TheVariants.{Input, Notice}
use Rattle.ev_base.specs.ev_types.specs.declared.upcall.Why.{Why}
use Rattle.ev_base.specs.Terms.{Terms}
use Rattle.ev_base.specs.End.{EndFacts}
use Rattle.ev_base.specs.declared.end.PeerEnd.{Ghosts}
use Rattle.reactor_model.specs.reactor_journal.specs.Event.{Item, Origin}
use Rattle.reactor_model.specs.Handling.{Handling, Deed, Installing, Stopping}
use Rattle.log_handler.specs.declared.note.ServerNote.{ServerNote}
use Rattle.log_handler.specs.declared.note.ServerNote.TheVariants as note
use Rattle.log_handler.specs.Connections.{ConnectionFits, ConnectionGone, serial_named}
use Rattle.log_handler.specs.Connections.{end_of_connection}
use Rattle.acceptor.specs.declared.server.ServerHandler.{ServerHandler}
use Rattle.acceptor.specs.declared.server.ServerHandler.TheVariants.{Listen, Talk}
use Rattle.acceptor.specs.Idle.{idle_timer}
use Rattle.acceptor.specs.Acceptors.{AcceptorFits, AcceptorGone, listener_of}

-- the handler has had these turns
abbrev pub ServerFits : {E : Type 0} {G : Ghosts E} → (E → EndFacts) → (Terms → E → Type 0) → Terms
    → Option (Origin ServerNote) →
    ServerHandler E G → List (Item ServerNote) → Type 0
ServerFits tells keeps t origin (Listen acceptor) had =
    AcceptorFits tells keeps t origin acceptor had
ServerFits tells keeps t origin (Talk connection) had =
    ConnectionFits tells keeps t origin connection had

-- its end: the listener, or that of the connection
abbrev pub end_of_server : {E : Type 0} {G : Ghosts E} → ServerHandler E G → E
end_of_server (Listen acceptor) = listener_of acceptor
end_of_server (Talk connection) = end_of_connection connection

-- what it leaves
abbrev pub ServerGone : {E : Type 0} → (E → EndFacts) → (Terms → E → Type 0) → Terms
    → Option (Origin ServerNote) → E → List (Item ServerNote) →
    Why → ServerNote → Type 0
ServerGone tells keeps t origin end had reason said =
    AcceptorGone tells keeps t origin end had reason said
    ⊎ ConnectionGone tells keeps t origin end had reason said

-- the mask of a connection: reports to read, and no others
abbrev pub read_alone : Mask
read_alone = record { read = true; write = false; except = false }

-- Which acts a turn may carry: at input a connection is installed, with that mask and, if the
-- terms have the idle time, its timer; and a notice stops the reactor.
abbrev pub ServerMay : Terms → Upcall → Deed → Type 0
ServerMay t Input (Installing mask timer) =
    (mask ≡ read_alone) × ((time : Option ℕ) → t.idle ≡ Some time → timer ≡ idle_timer time)
ServerMay t (Notice kind) Stopping = Unit {0}
ServerMay t up deed = ⊥

-- the notes whose turn installs a connection
abbrev pub is_accepted : ServerNote → Bool
is_accepted (note.Accepted conn) = true
is_accepted _ = false

-- what handlers of the server mean by their turns
abbrev pub servers : {E : Type 0} {G : Ghosts E} → (E → EndFacts) → (Terms → E → Type 0)
    → Handling (ServerHandler E G) E ServerNote
servers tells keeps = record {
  fits = ServerFits tells keeps;
  gone = ServerGone tells keeps;
  may = ServerMay;
  installs = is_accepted;
  serial = serial_named;
}
