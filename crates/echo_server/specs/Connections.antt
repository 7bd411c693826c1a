-- What a connection of the echo server means by its turns: which turns it has had, and what it
-- leaves.
use Rattle.std.specs.Prelude.{◌≡◌, ℕ, List}
use Rattle.reactor.specs.ev_types.specs.declared.upcall.Why.{Why}
use Rattle.reactor.specs.ev_base.specs.Terms.{Terms}
use Rattle.reactor.specs.ev_base.specs.End.{EndFacts}
use Rattle.reactor.specs.ev_base.specs.declared.end.PeerEnd.{Ghosts}
use Rattle.reactor.specs.reactor_journal.specs.Event.{Item}
use Rattle.echo_server.specs.Echo.{State, Echoes, IsClosing}
use Rattle.echo_server.specs.declared.note.EchoNote.{EchoNote}
use Rattle.echo_server.specs.declared.note.EchoNote.TheVariants as note
use Rattle.echo_server.specs.declared.note.Ending.{Ending}
use Rattle.echo_server.specs.declared.connection.EchoConnection.{EchoConnection}

-- its end, and the bytes that wait
abbrev pub end_of_connection : {E : Type 0} {G : Ghosts E} → EchoConnection E G → E
end_of_connection handler = handler.peer.end

abbrev pub waiting_in : {E : Type 0} {G : Ghosts E} → EchoConnection E G → List ℕ
waiting_in handler = handler.waiting

-- where it stands
abbrev pub state_of : {E : Type 0} {G : Ghosts E} → (E → EndFacts) → EchoConnection E G → State
state_of tells handler = record {
  facts = tells (end_of_connection handler);
  waiting = handler.waiting;
  moved = handler.moved;
  ended = handler.ended;
}

-- its end keeps what it kept
abbrev pub KeepsEnd : {E : Type 0} {G : Ghosts E} → (Terms → E → Type 0) → EchoConnection E G
    → EchoConnection E G → Type 0
KeepsEnd keeps old new = (t : Terms) → keeps t (end_of_connection old)
    → keeps t (end_of_connection new)

-- the connection has had these turns, since its end was new
pub record ConnectionFits {E : Type 0} {G : Ghosts E} (tells : E → EndFacts)
    (keeps : Terms → E → Type 0) (t : Terms)
    (handler : EchoConnection E G) (had : List (Item EchoNote)) : Type 0 where
  pub echoes : Echoes had (state_of tells handler)
  pub kept_end : keeps t (end_of_connection handler)

-- what a connection leaves that had these turns: its end, and the note of how it ended
pub record ConnectionGone {E : Type 0} (tells : E → EndFacts) (keeps : Terms → E → Type 0)
    (t : Terms) (end : E) (had : List (Item EchoNote))
    (reason : Why) (said : EchoNote) : Type 0 where
  pub last : State
  pub facts : last.facts ≡ tells end
  pub echoes : Echoes had last
  pub word : Ending
  pub closing : IsClosing reason last.ended word
  pub notes : said ≡ note.Finished word
  pub kept_end : keeps t end
