-- What one upcall of a connection of the logging server makes of it.
use Rattle.std.specs.Prelude.{◌≡◌, ◌⊎◌, ℕ, List, ◌++◌, Option, None}
use Rattle.cdr_record.specs.ev_types.specs.declared.upcall.Answer.{Answer}
use Rattle.cdr_record.specs.ev_types.specs.declared.upcall.Upcall.{Upcall}
use Rattle.ev_base.specs.Terms.{Terms}
use Rattle.ev_base.specs.End.{EndFacts}
use Rattle.ev_base.specs.declared.end.PeerEnd.{Ghosts}
use Rattle.cdr_record.specs.declared.record.LogRecord.{LogRecord}
use Rattle.cdr_record.specs.Decoding.{DecoderState, StandsFor}
use Rattle.log_lines.specs.declared.end_kind.EndKind.{EndKind}
use Rattle.line_sink.specs.reactor_journal.specs.Event.{Item}
use Rattle.line_sink.specs.reactor_model.specs.declared.handler.Turn.{Turn}
use Rattle.log_handler.specs.declared.note.ServerNote.{ServerNote}
use Rattle.log_handler.specs.declared.note.ServerNote.TheVariants as note
use Rattle.log_handler.specs.declared.connection.LogConnection.{LogConnection}
use Rattle.log_handler.specs.Connection.{Progress, DecodesPiece, LosesPiece, ServesUpcall}
use Rattle.log_handler.specs.Connections.{IsAt, end_of_connection, number_of_connection}
use Rattle.log_handler.specs.Connections.{idle_of_connection}

-- a turn of this connection with this answer, which took so many bytes and completed these records,
-- and carries no act
pub record IsTurn {H E : Type 0} (conn : ℕ) (answer : Answer) (took : ℕ) (records : List LogRecord)
    (turn : Turn H ServerNote E) : Type 0 where
  pub answers : turn.answer ≡ answer
  pub notes : turn.note ≡ note.Piece conn took records
  pub no_act : turn.act ≡ None

-- the turn as it is recorded
abbrev pub item_of : {H E : Type 0} → Upcall → ℕ → Turn H ServerNote E → Item ServerNote
item_of up now turn = record { upcall = up; moment = now; answer = turn.answer; note = turn.note }

-- A piece was decoded, or lost for want of memory. While the connection goes on, its decoder stands
-- for all bytes.
pub record TellsPiece (conn : ℕ) (before : Progress) (bytes : List ℕ) (item : Item ServerNote)
    (kept : Option EndKind) (decoder : DecoderState) : Type 0 where
  pub told : DecodesPiece conn before bytes item kept ⊎ LosesPiece conn bytes item kept
  pub stands : kept ≡ None → StandsFor decoder (before.taken ++ bytes) × (decoder.bad ≡ None)

-- it is the same connection: its number, its idle time, the serial number of its end, and what that
-- keeps
pub record IsSame {E : Type 0} {G : Ghosts E} (tells : E → EndFacts) (keeps : Terms → E → Type 0)
    (old new : LogConnection E G) : Type 0 where
  pub conn : number_of_connection new ≡ number_of_connection old
  pub idle : idle_of_connection new ≡ idle_of_connection old
  pub serial : (tells (end_of_connection new)).serial ≡ (tells (end_of_connection old)).serial
  pub kept : (t : Terms) → keeps t (end_of_connection old) → keeps t (end_of_connection new)

-- the turn leads from where the connection was to where it is
pub record Leads {E : Type 0} {G : Ghosts E} (tells : E → EndFacts) (up : Upcall) (now : ℕ)
    (old : LogConnection E G) (before : Progress)
    (new : LogConnection E G) (turn : Turn (LogConnection E G) ServerNote E) : Type 0 where
  pub after : Progress
  pub serves : ServesUpcall up (number_of_connection old) (idle_of_connection old) before
      (item_of up now turn) after
  pub stands : IsAt tells new after

-- the upcall is served, wherever the connection was, if it had not ended
abbrev pub Serves : {E : Type 0} {G : Ghosts E} → (E → EndFacts) → Upcall → ℕ → LogConnection E G
    → LogConnection E G → Turn (LogConnection E G) ServerNote E → Type 0
Serves tells up now old new turn =
    (before : Progress) → before.kept ≡ None → IsAt tells old before
    → Leads tells up now old before new turn
