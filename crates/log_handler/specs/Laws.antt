-- What the turns of a connection come to, all in all.
use Rattle.std.specs.Prelude.{◌≡◌, ◌≢◌, ◌≤◌, ℕ, Bool, true, false, List, [], ◌∷◌, ◌++◌, length}
use Rattle.std.specs.Prelude.{flat_map, Option, Some, None}
use Rattle.std.specs.List.{sum_by, count_by, AllByRecursion}
use Rattle.cdr_record.specs.ev_types.specs.declared.upcall.Answer.{Answer}
use Rattle.cdr_record.specs.ev_types.specs.declared.upcall.Answer.TheVariants.{Again}
use Rattle.cdr_record.specs.ev_types.specs.declared.upcall.Upcall.{Upcall}
use Rattle.cdr_record.specs.ev_types.specs.declared.upcall.Upcall.TheVariants.{Input}
use Rattle.ev_base.specs.Story.{Telling}
use Rattle.ev_base.specs.End.{Moved, WasOver, Faulted}
use Rattle.cdr_record.specs.declared.record.LogRecord.{LogRecord}
use Rattle.cdr_record.specs.Decoding.{Clean, Partial, Malformed, decode}
use Rattle.log_lines.specs.declared.end_kind.EndKind.{EndKind}
use Rattle.log_lines.specs.declared.end_kind.EndKind.TheVariants as end
use Rattle.line_sink.specs.reactor_journal.specs.Event.{Item}
use Rattle.log_handler.specs.declared.note.ServerNote.{ServerNote}
use Rattle.log_handler.specs.declared.note.ServerNote.TheVariants as note
use Rattle.log_handler.specs.Connection.{Progress, Course, at_start, is_idle, piece_room}

-- how many bytes a turn took, by its note, and the records that they completed
abbrev pub took_of : ServerNote → ℕ
took_of (note.Piece conn took records) = took
took_of _ = 0

abbrev pub records_of_note : ServerNote → List LogRecord
records_of_note (note.Piece conn took records) = records
records_of_note _ = []

abbrev pub took_in : Item ServerNote → ℕ
took_in item = took_of item.note

abbrev pub records_in : Item ServerNote → List LogRecord
records_in item = records_of_note item.note

-- a turn of this connection
abbrev pub IsPieceOf : ℕ → Item ServerNote → Type 0
IsPieceOf conn item = (took : ℕ) × (records : List LogRecord)
    × (item.note ≡ note.Piece conn took records)

-- whether a turn is one of input, and whether it was answered Again
abbrev pub is_input : Upcall → Bool
is_input Input = true
is_input _ = false

abbrev pub is_again : Answer → Bool
is_again Again = true
is_again _ = false

abbrev pub on_input : Item ServerNote → Bool
on_input item = is_input item.upcall

abbrev pub asks_again : Item ServerNote → Bool
asks_again item = is_again item.answer

-- the last turn, if there was one, and how many bytes it took
abbrev pub last_turn : List (Item ServerNote) → Option (Item ServerNote)
last_turn [] = None
last_turn (item ∷ []) = Some item
last_turn (item ∷ next ∷ items) = last_turn (next ∷ items)

abbrev pub took_last : Option (Item ServerNote) → ℕ
took_last None = 0
took_last (Some item) = took_in item

-- these are the records of what was taken but for its last bytes, of which there are so many
pub record OfFront (records : List LogRecord) (count : ℕ) (taken : List ℕ) : Type 0 where
  pub front : List ℕ
  pub lost : List ℕ
  pub whole : taken ≡ front ++ lost
  pub counts : length lost ≡ count
  pub decoded : records ≡ (decode front).records

-- These are the records of what was taken. If the connection ended for want of memory, they are
-- those of what was taken before the last piece, which has so many bytes.
abbrev pub HasRecords : List LogRecord → ℕ → List ℕ → Option EndKind → Type 0
HasRecords records count taken (Some end.NoMemory) = OfFront records count taken
HasRecords records count taken _ = records ≡ (decode taken).records

-- the last turn came when the connection was quiet for too long
abbrev pub WasIdle : Option ℕ → ℕ → Option (Item ServerNote) → Type 0
WasIdle idle last None = ⊥
WasIdle idle last (Some item) = is_idle idle last item.moment ≡ true

-- Why a connection ended itself as it did: `End` and `Partial` only if a read found the
-- end of the input, and reading what was taken stops so; `Malformed` only if reading stops
-- there; `Failed` only if the last read failed; `NoMemory` only if it gave bytes; `Idle` only
-- if it was quiet for too long. While it goes on, reading stops at no bad record.
abbrev pub EndedSo : Option ℕ → Option (Item ServerNote) → Progress → Option EndKind → Type 0
EndedSo idle last p None = (at : ℕ) → (decode p.taken).stop ≢ Malformed at
EndedSo idle last p (Some end.End) = (p.last_read ≡ Some WasOver) × ((decode p.taken).stop ≡ Clean)
EndedSo idle last p (Some (end.Partial n)) =
    (p.last_read ≡ Some WasOver) × ((decode p.taken).stop ≡ Partial n)
EndedSo idle last p (Some (end.Malformed at)) = (decode p.taken).stop ≡ Malformed at
EndedSo idle last p (Some end.Failed) = p.last_read ≡ Some Faulted
EndedSo idle last p (Some end.NoMemory) =
    (n : ℕ) × (1 ≤ n) × (n ≤ piece_room) × (p.last_read ≡ Some (Moved n))
EndedSo idle last p (Some end.Idle) = WasIdle idle p.last last
EndedSo idle last p (Some end.Stopped) = ⊥
EndedSo idle last p (Some end.Refused) = ⊥

-- what the turns of a connection come to that has had them from its start on
pub record Accounts (conn : ℕ) (idle : Option ℕ) (had : List (Item ServerNote))
    (p : Progress) : Type 0 where
  -- all notes are of this connection
  pub notes : AllByRecursion (IsPieceOf conn) had
  -- it took as many bytes as the notes tell
  pub took : length p.taken ≡ sum_by took_in had
  -- the records of the notes, joined, are those of what it took
  pub records : HasRecords (flat_map records_in had) (took_last (last_turn had)) p.taken p.kept
  -- each turn of input made one read, and no other turn did
  pub reads : p.reads ≡ count_by on_input had
  -- each answer Again took a byte
  pub again : count_by asks_again had ≤ length p.taken
  -- how it ended, if it did so itself
  pub ended : EndedSo idle (last_turn had) p p.kept

abbrev pub CoursesAccount : Type 0
CoursesAccount = (conn : ℕ) (idle : Option ℕ) (moment : ℕ) (telling : Option Telling)
    (had : List (Item ServerNote)) (p : Progress)
    → Course conn idle (at_start moment telling) had p → Accounts conn idle had p
