-- What a connection of the logging server did in the turns that it had (C++NPv2 chapter 4,
-- `Logging_Event_Handler`; how it ends is this project's own).
use Rattle.std.specs.Prelude.{◌≡◌, ◌≤◌, ◌-◌, ◌⊎◌, ℕ, suc, nat_le, Bool, true, false, List, [], ◌∷◌}
use Rattle.std.specs.Prelude.{◌++◌, length, Option, Some, None}
use Rattle.cdr_record.specs.ev_types.specs.declared.upcall.Answer.{Answer}
use Rattle.cdr_record.specs.ev_types.specs.declared.upcall.Answer.TheVariants.{Keep, Again, Close}
use Rattle.cdr_record.specs.ev_types.specs.declared.upcall.Upcall.{Upcall}
use Rattle.cdr_record.specs.ev_types.specs.declared.upcall.Upcall.TheVariants.{Input, Output}
use Rattle.cdr_record.specs.ev_types.specs.declared.upcall.Upcall.TheVariants.{Except, Timeout}
use Rattle.cdr_record.specs.ev_types.specs.declared.upcall.Upcall.TheVariants.{Notice}
use Rattle.ev_base.specs.Story.{Telling, TellsNext}
use Rattle.ev_base.specs.End.{Try, Moved, Paused, WasOver, Faulted}
use Rattle.ev_base.specs.declared.source.Got.{Got}
use Rattle.ev_base.specs.declared.source.Got.TheVariants as got
use Rattle.cdr_record.specs.declared.record.LogRecord.{LogRecord}
use Rattle.cdr_record.specs.Decoding.{Stop, Clean, Partial, Malformed, decode}
use Rattle.log_lines.specs.declared.end_kind.EndKind.{EndKind}
use Rattle.log_lines.specs.declared.end_kind.EndKind.TheVariants as end
use Rattle.line_sink.specs.reactor_journal.specs.Event.{Item}
use Rattle.log_handler.specs.declared.note.ServerNote.{ServerNote}
use Rattle.log_handler.specs.declared.note.ServerNote.TheVariants as note

-- how many bytes a read takes at most
abbrev pub piece_room : ℕ
piece_room = 4096

-- how far a connection has come
pub record Progress : Type 0 where
  -- the bytes that it took
  pub taken : List ℕ
  -- the moment of its last read that gave bytes, at first that of accepting, in milliseconds
  pub last : ℕ
  -- how many reads it made, and what the last came to
  pub reads : ℕ
  pub last_read : Option Try
  -- how far the story of its end was told, if that is told
  pub telling : Option Telling
  -- how it ended, once it did so itself
  pub kept : Option EndKind

-- at the start, which is at some moment
abbrev pub at_start : ℕ → Option Telling → Progress
at_start moment telling = record {
  taken = [];
  last = moment;
  reads = 0;
  last_read = None;
  telling = telling;
  kept = None;
}

-- one more read, which came to this
abbrev pub after_read : Try → Option Telling → Progress → Progress
after_read came_to telling p = record p {
  reads = suc p.reads;
  last_read = Some came_to;
  telling = telling;
}

-- how a connection ends whose input was read to its end
abbrev pub end_of : Stop → EndKind
end_of Clean = end.End
end_of (Partial n) = end.Partial n
end_of (Malformed at) = end.Malformed at

-- what a turn notes that took no bytes
abbrev pub nothing_taken : ℕ → ServerNote
nothing_taken conn = note.Piece conn 0 []

-- The answer to a piece, and how the connection ended by it: it goes on, unless a bad record stands
-- in what was taken.
abbrev pub answer_to : Stop → Answer
answer_to (Malformed at) = Close
answer_to _ = Again

abbrev pub kept_at : Stop → Option EndKind
kept_at (Malformed at) = Some (end.Malformed at)
kept_at _ = None

-- A piece was decoded: its note has the records that it completes.
pub record DecodesPiece (conn : ℕ) (before : Progress) (bytes : List ℕ) (item : Item ServerNote)
    (kept : Option EndKind) : Type 0 where
  pub records : List LogRecord
  pub decoded : (decode (before.taken ++ bytes)).records ≡ (decode before.taken).records ++ records
  pub notes : item.note ≡ note.Piece conn (length bytes) records
  pub answers : item.answer ≡ answer_to (decode (before.taken ++ bytes)).stop
  pub ends : kept ≡ kept_at (decode (before.taken ++ bytes)).stop

-- There was no memory for the records of a piece: its bytes count, and none of its records is told.
pub record LosesPiece (conn : ℕ) (bytes : List ℕ) (item : Item ServerNote)
    (kept : Option EndKind) : Type 0 where
  pub notes : item.note ≡ note.Piece conn (length bytes) []
  pub answers : item.answer ≡ Close
  pub ends : kept ≡ Some end.NoMemory

-- a read gave bytes
pub record TakesPiece (conn : ℕ) (before : Progress) (bytes : List ℕ) (telling : Option Telling)
    (item : Item ServerNote) (after : Progress) : Type 0 where
  pub some : 1 ≤ length bytes
  pub within : length bytes ≤ piece_room
  pub leaves : after ≡ record (after_read (Moved (length bytes)) telling before) {
    taken = before.taken ++ bytes;
    last = item.moment;
    kept = after.kept;
  }
  pub told : DecodesPiece conn before bytes item after.kept ⊎ LosesPiece conn bytes item after.kept

-- a read gave none: it paused, it found the end of the input, or it failed
pub record TakesNothing (conn : ℕ) (before : Progress) (came_to : Try) (telling : Option Telling)
    (answer : Answer) (kept : Option EndKind)
    (item : Item ServerNote) (after : Progress) : Type 0 where
  pub notes : item.note ≡ nothing_taken conn
  pub answers : item.answer ≡ answer
  pub leaves : after ≡ record (after_read came_to telling before) { kept = kept }

-- what a turn with a read is, by what the read gave
abbrev pub ServesRead : ℕ → Progress → Got → List ℕ → Option Telling → Item ServerNote → Progress
    → Type 0
ServesRead conn before (got.Bytes n) bytes telling item after =
    (n ≡ length bytes) × TakesPiece conn before bytes telling item after
ServesRead conn before got.Pause bytes telling item after =
    TakesNothing conn before Paused telling Keep None item after
ServesRead conn before got.Over bytes telling item after =
    TakesNothing conn before WasOver telling Close (Some (end_of (decode before.taken).stop)) item
    after
ServesRead conn before got.Failed bytes telling item after =
    TakesNothing conn before Faulted telling Close (Some end.Failed) item after

-- the turn makes one read, of at most 4,096 bytes, which takes the next of the end's story if
-- that is told
pub record ReadsOnce (conn : ℕ) (before : Progress) (item : Item ServerNote)
    (after : Progress) : Type 0 where
  pub gave : Got
  pub bytes : List ℕ
  pub tells : TellsNext before.telling piece_room gave bytes after.telling
  pub serves : ServesRead conn before gave bytes after.telling item after

-- whether a connection was quiet for too long
abbrev pub is_idle : Option ℕ → ℕ → ℕ → Bool
is_idle None last moment = false
is_idle (Some idle) last moment = nat_le idle (moment - last)

-- the turn makes no read
pub record MakesNoRead (conn : ℕ) (before : Progress) (answer : Answer) (kept : Option EndKind)
    (item : Item ServerNote) (after : Progress) : Type 0 where
  pub notes : item.note ≡ nothing_taken conn
  pub answers : item.answer ≡ answer
  pub leaves : after ≡ record before { kept = kept }

-- at a timeout it closes exactly if it was quiet for too long
abbrev pub AnswersTimeout : Bool → ℕ → Progress → Item ServerNote → Progress → Type 0
AnswersTimeout true conn before item after =
    MakesNoRead conn before Close (Some end.Idle) item after
AnswersTimeout false conn before item after = MakesNoRead conn before Keep None item after

-- one turn of a connection of this number and idle time, by its upcall: input is read, a timeout
-- looks at the idle time, and every other upcall is answered Keep
abbrev pub ServesUpcall : Upcall → ℕ → Option ℕ → Progress → Item ServerNote → Progress → Type 0
ServesUpcall Input conn idle before item after = ReadsOnce conn before item after
ServesUpcall (Timeout timer) conn idle before item after =
    AnswersTimeout (is_idle idle before.last item.moment) conn before item after
ServesUpcall Output conn idle before item after = MakesNoRead conn before Keep None item after
ServesUpcall Except conn idle before item after = MakesNoRead conn before Keep None item after
ServesUpcall (Notice kind) conn idle before item after =
    MakesNoRead conn before Keep None item after

-- A turn comes only if the connection did not end.
pub record Turns (conn : ℕ) (idle : Option ℕ) (before : Progress) (item : Item ServerNote)
    (after : Progress) : Type 0 where
  pub goes_on : before.kept ≡ None
  pub serves : ServesUpcall item.upcall conn idle before item after

-- turns one after another, each from where the one before left it
abbrev pub Course : ℕ → Option ℕ → Progress → List (Item ServerNote) → Progress → Type 0
Course conn idle start [] p = p ≡ start
Course conn idle start (item ∷ items) p =
    (next : Progress) × Turns conn idle start item next × Course conn idle next items p
