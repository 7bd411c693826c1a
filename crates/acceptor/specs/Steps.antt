-- What one upcall of the server's handlers makes of them.
use Rattle.std.specs.Prelude.{◌≡◌, ◌≤◌, ◌<◌, ◌↔◌, ◌⊎◌, ℕ, List, [], ◌∷◌, ◌++◌, Option, Some, None}
use Rattle.std.specs.Prelude.{false}
use Rattle.ev_base.specs.ev_types.specs.declared.upcall.Upcall.{Upcall}
use Rattle.ev_base.specs.ev_types.specs.declared.upcall.Upcall.TheVariants.{Input, Output, Except}
use Rattle.ev_base.specs.ev_types.specs.declared.upcall.Upcall.TheVariants.{Timeout, Notice}
use Rattle.ev_base.specs.ev_types.specs.declared.upcall.Answer.TheVariants.{Keep, Again}
use Rattle.ev_base.specs.Counts.{counted, Rose}
use Rattle.ev_base.specs.Terms.{Terms}
use Rattle.ev_base.specs.End.{EndFacts, Accepted, Paused, Faulted}
use Rattle.ev_base.specs.declared.end.PeerEnd.{Ghosts}
use Rattle.reactor_model.specs.reactor_journal.specs.Event.{Item, Origin}
use Rattle.reactor_model.specs.declared.handler.Act.{Act}
use Rattle.reactor_model.specs.Turns.{MayAct}
use Rattle.reactor_model.specs.declared.handler.Turn.{Turn}
use Rattle.reactor_model.specs.declared.handler.Act.TheVariants.{Install, MaskMine, CancelMine}
use Rattle.reactor_model.specs.declared.handler.Act.TheVariants.{Stop}
use Rattle.log_handler.specs.declared.note.ServerNote.{ServerNote}
use Rattle.log_handler.specs.declared.note.ServerNote.TheVariants as note
use Rattle.log_handler.specs.Steps.{item_of}
use Rattle.log_handler.specs.declared.connection.LogConnection.{LogConnection}
use Rattle.log_handler.specs.Connections.{MayComeFrom, ConnectionFits, end_of_connection}
use Rattle.acceptor.specs.declared.acceptor.Acceptor.{Acceptor}
use Rattle.acceptor.specs.declared.server.ServerHandler.{ServerHandler}
use Rattle.acceptor.specs.declared.server.ServerHandler.TheVariants.{Listen, Talk}
use Rattle.acceptor.specs.Accepting.{most_connections}
use Rattle.acceptor.specs.Acceptors.{AcceptorFits, listener_of, count_taken, idle_of_acceptor}
use Rattle.acceptor.specs.Servers.{servers, read_alone, is_accepted}
use Rattle.acceptor.specs.Idle.{idle_timer}

-- the acceptor has had one turn more, whose act may be done
pub record TakesAcceptorTurn {E : Type 0} {G : Ghosts E} (tells : E → EndFacts)
    (keeps : Terms → E → Type 0) (up : Upcall) (now : ℕ) (old new : Acceptor E G)
    (turn : Turn (ServerHandler E G) ServerNote E) : Type 0 where
  pub fits : (t : Terms) (origin : Option (Origin ServerNote)) (had : List (Item ServerNote))
      → AcceptorFits tells keeps t origin old had
      → AcceptorFits tells keeps t origin new (had ++ item_of up now turn ∷ [])
  pub act : (t : Terms) (origin : Option (Origin ServerNote)) (had : List (Item ServerNote))
      → AcceptorFits tells keeps t origin old had
      → MayAct (servers {E = E} {G = G} tells keeps) t up
      (record { note = turn.note; moment = now }) turn.act

-- a turn that offers the handler of a connection, made of this end at this moment, with this number
-- and idle time
pub record OffersConnection {E : Type 0} {G : Ghosts E} (tells : E → EndFacts)
    (keeps : Terms → E → Type 0) (conn : ℕ) (idle : Option ℕ) (now : ℕ) (end : E)
    (turn : Turn (ServerHandler E G) ServerNote E) : Type 0 where
  pub handler : LogConnection E G
  pub answers : turn.answer ≡ Again
  pub notes : turn.note ≡ note.Accepted conn
  pub installs : turn.act ≡ Some (Install (Talk handler) read_alone (idle_timer idle))
  pub fits : (t : Terms) (origin : Option (Origin ServerNote)) → keeps t end
      → MayComeFrom t origin conn idle now (tells end).serial
      → ConnectionFits tells keeps t origin handler []

-- What an acceptor that took so many connections before notes of input, and what its listener tells
-- before and after: while it may take one more, it makes one accept and notes what that came to;
-- else it makes none, and notes that none waits.
pub record NotesAccept (taken : ℕ) (old new : EndFacts) (said : ServerNote) : Type 0 where
  pub one : taken < most_connections → new.reads ≡ counted old.reads
  pub no_more : most_connections ≤ taken → new ≡ old
  pub accepted : (said ≡ note.Accepted taken)
      ↔ ((taken < most_connections) × (new.last_read ≡ Some Accepted))
  pub failed : (said ≡ note.ListenerFailed)
      ↔ ((taken < most_connections) × (new.last_read ≡ Some Faulted))
  pub rose : said ≡ note.ListenerFailed → Rose old.faults new.faults
  pub none : (said ≡ note.NoneWaiting)
      ↔ ((most_connections ≤ taken) ⊎ (new.last_read ≡ Some Paused))

-- What a turn of input tells: of an acceptor, what its one accept came to; and a connection answers
-- Keep exactly if its one read paused.
abbrev pub TellsInput : {E : Type 0} {G : Ghosts E} → (E → EndFacts) → ServerHandler E G
    → ServerHandler E G → Turn (ServerHandler E G) ServerNote E → Type 0
TellsInput tells (Listen old) (Listen new) turn =
    NotesAccept (count_taken old) (tells (listener_of old)) (tells (listener_of new)) turn.note
TellsInput tells (Talk old) (Talk new) turn =
    (turn.answer ≡ Keep) ↔ ((tells (end_of_connection new)).last_read ≡ Some Paused)
TellsInput tells (Listen old) (Talk new) turn = ⊥
TellsInput tells (Talk old) (Listen new) turn = ⊥

-- an act that a turn of input may carry: a connection is installed to be read, with its timer
abbrev pub InstallsAlone : {E : Type 0} {G : Ghosts E} → Option ℕ
    → Option (Act (ServerHandler E G) ServerNote E) → Type 0
InstallsAlone idle None = Unit {0}
InstallsAlone idle (Some (Install handler mask timer)) =
    (mask ≡ read_alone) × (timer ≡ idle_timer idle)
InstallsAlone idle (Some (MaskMine mask)) = ⊥
InstallsAlone idle (Some (CancelMine timer)) = ⊥
InstallsAlone idle (Some Stop) = ⊥

-- The acts of an acceptor with this idle time, by the upcall: of input none unless a connection was
-- accepted; a notice stops the reactor; and every other carries none.
abbrev pub ActsAt : {E : Type 0} {G : Ghosts E} → Option ℕ → Upcall
    → Turn (ServerHandler E G) ServerNote E → Type 0
ActsAt idle Input turn = InstallsAlone idle turn.act
    × (is_accepted turn.note ≡ false → turn.act ≡ None)
ActsAt idle (Notice kind) turn = turn.act ≡ Some Stop
ActsAt idle Output turn = turn.act ≡ None
ActsAt idle Except turn = turn.act ≡ None
ActsAt idle (Timeout timer) turn = turn.act ≡ None

-- a connection's turn carries none
abbrev pub ActsSo : {E : Type 0} {G : Ghosts E} → ServerHandler E G → Upcall
    → Turn (ServerHandler E G) ServerNote E → Type 0
ActsSo (Listen old) up turn = ActsAt (idle_of_acceptor old) up turn
ActsSo (Talk old) up turn = turn.act ≡ None

-- the last note of an acceptor, for every reason
abbrev pub NotesShut : {E : Type 0} {G : Ghosts E} → ServerHandler E G → ServerNote → Type 0
NotesShut (Listen acceptor) said = said ≡ note.ListenerShut
NotesShut (Talk connection) said = Unit {0}
