-- What a connection of the logging server means by its turns: which turns it has had, and what it
-- leaves.
use Rattle.std.specs.Prelude.{◌≡◌, ◌≤◌, ℕ, Bool, true, false, List, [], length, Option, Some, None}
use Rattle.std.specs.Prelude.{option_and_then}
use Rattle.cdr_record.specs.ev_types.specs.declared.upcall.Why.{Why}
use Rattle.cdr_record.specs.ev_types.specs.declared.upcall.Why.TheVariants as why
use Rattle.ev_base.specs.Counts.{Counts}
use Rattle.ev_base.specs.Bytes.{HasGiven}
use Rattle.ev_base.specs.Story.{Part, Telling, OfParts}
use Rattle.ev_base.specs.Terms.{Terms, story_of}
use Rattle.ev_base.specs.End.{EndFacts, Try, WasOver}
use Rattle.ev_base.specs.declared.end.PeerEnd.{Ghosts}
use Rattle.cdr_record.specs.Decoding.{DecoderState, StandsFor}
use Rattle.log_lines.specs.declared.end_kind.EndKind.{EndKind}
use Rattle.log_lines.specs.declared.end_kind.EndKind.TheVariants as end
use Rattle.line_sink.specs.reactor_journal.specs.Event.{Item, Origin}
use Rattle.line_sink.specs.reactor_model.specs.Handling.{Handling}
use Rattle.log_handler.specs.declared.note.ServerNote.{ServerNote}
use Rattle.log_handler.specs.declared.note.ServerNote.TheVariants as note
use Rattle.log_handler.specs.declared.connection.LogConnection.{LogConnection}
use Rattle.log_handler.specs.Connection.{Progress, at_start, Course}

-- What an origin says of the serial number of a handler's end: if the terms have the listener's
-- story, it is that of the connection accepted in it, and an end that was not accepted has none.
abbrev pub accepted_in : ServerNote → Option ℕ
accepted_in (note.Accepted conn) = Some conn
accepted_in _ = None

abbrev pub serial_named : Terms → Option (Origin ServerNote) → Option (Option ℕ)
serial_named t origin = elim t.offers
    [ None ↦ None | Some offers ↦ Some (option_and_then (λ o. accepted_in o.note) origin) ]

-- A connection of this number, made at this moment, may have this origin under the terms, its end
-- this serial number, and it this idle time: if the terms have the listener's story, it was
-- offered by the turn that accepted the connection of its number; and if its end has a serial
-- number, that is its own.
pub record MayComeFrom (t : Terms) (origin : Option (Origin ServerNote)) (conn : ℕ)
    (idle : Option ℕ) (moment : ℕ) (serial : Option ℕ) : Type 0 where
  pub offered : (offers : List _) → t.offers ≡ Some offers
      → (origin ≡ Some (record { note = note.Accepted conn; moment = moment }))
      × (serial ≡ Some conn)
  pub waits : (time : Option ℕ) → t.idle ≡ Some time → idle ≡ time
  pub numbered : (number : ℕ) → serial ≡ Some number → number ≡ conn

-- at the start the whole story of its end was left, if the terms have it in parts
abbrev pub BeginsStory : Terms → ℕ → Option ℕ → Option Telling → Type 0
BeginsStory t conn serial telling =
    (parts : List Part) → story_of t conn ≡ Some (OfParts parts) → serial ≡ Some conn
    → telling ≡ Some (record { given = []; at = 0; left = parts })

-- whether the last read found the end of the input
abbrev pub found_end : Option Try → Bool
found_end (Some WasOver) = true
found_end _ = false

-- no call of the end failed, unless the connection ended as failed
abbrev pub HasFaults : Option EndKind → ℕ → Type 0
HasFaults (Some end.Failed) faults = 1 ≤ faults
HasFaults _ faults = faults ≡ 0

-- what the end of a connection tells that has come so far
pub record HasServed (p : Progress) (e : EndFacts) : Type 0 where
  pub no_listener : e.listener ≡ false
  pub given : HasGiven e.bytes p.taken
  pub gave : e.gave ≡ length p.taken
  pub reads : Counts e.reads p.reads
  pub last_read : e.last_read ≡ p.last_read
  pub over : e.over ≡ found_end p.last_read
  pub telling : e.telling ≡ p.telling
  pub faults : HasFaults p.kept e.faults

-- A connection of this number and idle time had these turns, and its end tells this.
pub record Served (t : Terms) (origin : Option (Origin ServerNote)) (conn : ℕ) (idle : Option ℕ)
    (had : List (Item ServerNote)) (e : EndFacts) : Type 0 where
  pub moment : ℕ
  pub telling : Option Telling
  pub now : Progress
  pub course : Course conn idle (at_start moment telling) had now
  pub comes_from : MayComeFrom t origin conn idle moment e.serial
  pub story : BeginsStory t conn e.serial telling
  pub end : HasServed now e

-- while it goes on, its decoder stands for what it took, and has met no bad record
abbrev pub HasDecoder : Progress → DecoderState → Type 0
HasDecoder p decoder = p.kept ≡ None → StandsFor decoder p.taken × (decoder.bad ≡ None)

-- its end
abbrev pub end_of_connection : {E : Type 0} {G : Ghosts E} → LogConnection E G → E
end_of_connection handler = handler.peer.end

-- its number, and after how many quiet milliseconds it is closed
abbrev pub number_of_connection : {E : Type 0} {G : Ghosts E} → LogConnection E G → ℕ
number_of_connection handler = handler.conn

abbrev pub idle_of_connection : {E : Type 0} {G : Ghosts E} → LogConnection E G → Option ℕ
idle_of_connection handler = handler.idle

-- it has come so far
pub record IsAt {E : Type 0} {G : Ghosts E} (tells : E → EndFacts) (handler : LogConnection E G)
    (p : Progress) : Type 0 where
  pub end : HasServed p (tells (end_of_connection handler))
  pub last : handler.last ≡ p.last
  pub kept : handler.kept ≡ p.kept
  pub decoder : HasDecoder p handler.decoder

-- the connection has had these turns
pub record ConnectionFits {E : Type 0} {G : Ghosts E} (tells : E → EndFacts)
    (keeps : Terms → E → Type 0) (t : Terms) (origin : Option (Origin ServerNote))
    (handler : LogConnection E G) (had : List (Item ServerNote)) : Type 0 where
  pub served : Served t origin (number_of_connection handler) (idle_of_connection handler) had
      (tells (end_of_connection handler))
  pub last : handler.last ≡ served.now.last
  pub kept : handler.kept ≡ served.now.kept
  pub decoder : HasDecoder served.now handler.decoder
  pub kept_end : keeps t (end_of_connection handler)

-- the word of the closing line, by the reason for which it is closed and how it ended itself
abbrev pub IsClosing : Why → Option EndKind → EndKind → Type 0
IsClosing why.Own kept word = kept ≡ Some word
IsClosing why.Removed (Some end.NoMemory) word = word ≡ end.NoMemory
IsClosing why.Removed kept word = word ≡ end.Stopped
IsClosing why.Refused kept word = word ≡ end.Refused

-- what a connection leaves that had these turns: its end, and the note that it finished
pub record ConnectionGone {E : Type 0} (tells : E → EndFacts) (keeps : Terms → E → Type 0)
    (t : Terms) (origin : Option (Origin ServerNote))
    (end : E) (had : List (Item ServerNote)) (reason : Why) (said : ServerNote) : Type 0 where
  pub conn : ℕ
  pub idle : Option ℕ
  pub served : Served t origin conn idle had (tells end)
  pub word : EndKind
  pub closing : IsClosing reason served.now.kept word
  pub notes : said ≡ note.Finished conn word
  pub kept_end : keeps t end

-- What connections mean by their turns. No turn carries an act.
abbrev pub connections : {E : Type 0} {G : Ghosts E} → (E → EndFacts) → (Terms → E → Type 0)
    → Handling (LogConnection E G) E ServerNote
connections tells keeps = record {
  fits = ConnectionFits tells keeps;
  gone = ConnectionGone tells keeps;
  may = λ t up deed. ⊥;
  installs = λ said. false;
  serial = serial_named;
}
