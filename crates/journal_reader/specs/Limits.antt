-- The limits of a journal's text. What they leave out can be put by a writer, and is refused by a
-- reader.
use Rattle.std.specs.Prelude.{◌≤◌, ◌<◌, ◌^◌, ℕ, length}
use Rattle.std.specs.List.{AllByRecursion}
use Rattle.std.specs.Int.{w64}
use Rattle.std.specs.Int.RustNames.{FitsSigned}
use Rattle.hex.specs.Hex.{IsBytes}
use Rattle.cdr_record.specs.declared.record.LogRecord.{LogRecord}
use Rattle.cdr_record.specs.Laws.{HasNumbersOf32Bits}
use Rattle.log_handler.specs.log_lines.specs.declared.end_kind.EndKind.{EndKind}
use Rattle.log_handler.specs.log_lines.specs.declared.end_kind.EndKind.TheVariants.{End, Partial}
use Rattle.log_handler.specs.log_lines.specs.declared.end_kind.EndKind.TheVariants.{Malformed}
use Rattle.log_handler.specs.log_lines.specs.declared.end_kind.EndKind.TheVariants.{Failed}
use Rattle.log_handler.specs.log_lines.specs.declared.end_kind.EndKind.TheVariants.{NoMemory, Idle}
use Rattle.log_handler.specs.log_lines.specs.declared.end_kind.EndKind.TheVariants.{Stopped}
use Rattle.log_handler.specs.log_lines.specs.declared.end_kind.EndKind.TheVariants.{Refused}
use Rattle.reactor_model.specs.reactor_journal.specs.declared.entry.Entry.{Entry}
use Rattle.reactor_model.specs.reactor_journal.specs.declared.entry.Entry.TheVariants as entry
use Rattle.log_handler.specs.declared.note.ServerNote.{ServerNote}
use Rattle.log_handler.specs.declared.note.ServerNote.TheVariants as note

-- how many handlers may be live at once
abbrev pub IsMost : ℕ → Type 0
IsMost most = (1 ≤ most) × (most ≤ 4097)

-- any other number without a sign
abbrev pub IsNumber : ℕ → Type 0
IsNumber n = n < 2 ^ 64

-- a record: its seconds have 64 bits and its other numbers 32, and its message is at most 65,536
-- bytes
pub record RecordIsWithin (r : LogRecord) : Type 0 where
  pub numbers : HasNumbersOf32Bits r
  pub sec : FitsSigned w64 r.sec
  pub bytes : IsBytes r.text
  pub short : length r.text ≤ 65536

abbrev pub EndIsWithin : EndKind → Type 0
EndIsWithin End = Unit {0}
EndIsWithin (Partial bytes) = IsNumber bytes
EndIsWithin (Malformed at) = IsNumber at
EndIsWithin Failed = Unit {0}
EndIsWithin NoMemory = Unit {0}
EndIsWithin Idle = Unit {0}
EndIsWithin Stopped = Unit {0}
EndIsWithin Refused = Unit {0}

abbrev pub NoteIsWithin : ServerNote → Type 0
NoteIsWithin (note.Accepted conn) = IsNumber conn
NoteIsWithin note.NoneWaiting = Unit {0}
NoteIsWithin note.ListenerFailed = Unit {0}
NoteIsWithin note.ListenerShut = Unit {0}
NoteIsWithin (note.Piece conn took records) =
    IsNumber conn × IsNumber took × IsNumber (length records)
    × AllByRecursion RecordIsWithin records
NoteIsWithin (note.Finished conn end) = IsNumber conn × EndIsWithin end

abbrev pub EntryIsWithin : Entry ServerNote → Type 0
EntryIsWithin (entry.Opened handle mask) = IsNumber handle.0
EntryIsWithin (entry.Scheduled timer handle first every) =
    IsNumber timer × IsNumber handle.0 × IsNumber first × IsNumber every
EntryIsWithin (entry.Cancelled timer) = IsNumber timer
EntryIsWithin (entry.Polled now) = IsNumber now
EntryIsWithin (entry.Due timer) = IsNumber timer
EntryIsWithin (entry.Ready handle kind) = IsNumber handle.0
EntryIsWithin (entry.Posted handle kind from seq) = IsNumber handle.0 × IsNumber from × IsNumber seq
EntryIsWithin (entry.Stale handle from seq) = IsNumber handle.0 × IsNumber from × IsNumber seq
EntryIsWithin (entry.Started event) = IsNumber event
EntryIsWithin (entry.Returned event answer said) = IsNumber event × NoteIsWithin said
EntryIsWithin (entry.Masked handle mask) = IsNumber handle.0
EntryIsWithin (entry.Suspended handle) = IsNumber handle.0
EntryIsWithin (entry.Resumed handle) = IsNumber handle.0
EntryIsWithin (entry.Refused live fault said) = IsNumber live × NoteIsWithin said
EntryIsWithin (entry.Removed handle) = IsNumber handle.0
EntryIsWithin (entry.Closed handle said) = IsNumber handle.0 × NoteIsWithin said
EntryIsWithin entry.Ended = Unit {0}
