-- The text of a journal: the line `most N`, where N is how many handlers may be live at once, and
-- then one line for each entry, in order. Words are parted by one space, and each line ends with a
-- line feed. The spelling is this project's own; each journal has one.
use Rattle.std.specs.Prelude.{ℕ, Bool, true, false, if◌then◌else◌, List, ◌++◌, codes, decimal}
use Rattle.std.specs.Prelude.{flat_map, length}
use Rattle.std.specs.Fmt.{signed_decimal}
use Rattle.hex.specs.Hex.{encode_lower}
use Rattle.cdr_record.specs.ev_types.specs.declared.upcall.Mask.{Mask}
use Rattle.cdr_record.specs.ev_types.specs.declared.upcall.Kind.{Kind}
use Rattle.cdr_record.specs.ev_types.specs.declared.upcall.Kind.TheVariants.{Read, Write, Except}
use Rattle.cdr_record.specs.ev_types.specs.declared.upcall.Answer.{Answer}
use Rattle.cdr_record.specs.ev_types.specs.declared.upcall.Answer.TheVariants.{Keep, Again, Close}
use Rattle.cdr_record.specs.declared.record.LogRecord.{LogRecord}
use Rattle.log_lines.specs.declared.end_kind.EndKind.{EndKind}
use Rattle.log_lines.specs.declared.end_kind.EndKind.TheVariants.{End, Partial, Malformed, Failed}
use Rattle.log_lines.specs.declared.end_kind.EndKind.TheVariants.{NoMemory, Idle, Stopped, Refused}
use Rattle.reactor_model.specs.reactor_journal.specs.declared.entry.Entry.{Entry}
use Rattle.reactor_model.specs.reactor_journal.specs.declared.entry.Entry.TheVariants as entry
use Rattle.log_handler.specs.declared.note.ServerNote.{ServerNote}
use Rattle.log_handler.specs.declared.note.ServerNote.TheVariants as note

-- the reports that are wanted: a letter for each kind, or a hyphen
unfoldable pub mask_text : Mask → List ℕ
mask_text mask =
    (if mask.read then codes "r" else codes "-") ++ (if mask.write then codes "w" else codes "-")
    ++ (if mask.except then codes "e" else codes "-")

abbrev pub kind_text : Kind → List ℕ
kind_text Read = codes "read"
kind_text Write = codes "write"
kind_text Except = codes "except"

abbrev pub answer_text : Answer → List ℕ
answer_text Keep = codes "keep"
answer_text Again = codes "again"
answer_text Close = codes "close"

-- whether the demultiplexer failed
abbrev pub fault_text : Bool → List ℕ
fault_text true = codes "yes"
fault_text false = codes "no"

-- how a connection ended, in one word
abbrev pub end_text : EndKind → List ℕ
end_text End = codes "end"
end_text (Partial bytes) = codes "partial:" ++ decimal bytes
end_text (Malformed at) = codes "malformed:" ++ decimal at
end_text Failed = codes "failed"
end_text NoMemory = codes "nomemory"
end_text Idle = codes "idle"
end_text Stopped = codes "stopped"
end_text Refused = codes "refused"

-- a record: `TYPE:PID:SEC:USEC:MESSAGE`, the message in lower-case hexadecimal digits
unfoldable pub record_word : LogRecord → List ℕ
record_word r =
    signed_decimal r.kind ++ codes ":" ++ signed_decimal r.pid ++ codes ":" ++ signed_decimal r.sec
    ++ codes ":" ++ signed_decimal r.usec
    ++ codes ":" ++ encode_lower r.text

-- the records of a piece, a space before each
abbrev pub record_words : List LogRecord → List ℕ
record_words records = flat_map (λ r. codes " " ++ record_word r) records

-- a note of the server's handlers
unfoldable pub note_text : ServerNote → List ℕ
note_text (note.Accepted conn) = codes "accepted " ++ decimal conn
note_text note.NoneWaiting = codes "none"
note_text note.ListenerFailed = codes "listenerfailed"
note_text note.ListenerShut = codes "shut"
note_text (note.Piece conn took records) =
    codes "piece " ++ decimal conn ++ codes " " ++ decimal took ++ codes " "
    ++ decimal (length records) ++ record_words records
note_text (note.Finished conn end) = codes "end " ++ decimal conn ++ codes " " ++ end_text end

-- an entry, without the line feed
unfoldable pub entry_text : Entry ServerNote → List ℕ
entry_text (entry.Opened handle mask) =
    codes "opened " ++ decimal handle.0 ++ codes " " ++ mask_text mask
entry_text (entry.Scheduled timer handle first every) =
    codes "scheduled " ++ decimal timer ++ codes " " ++ decimal handle.0 ++ codes " "
    ++ decimal first ++ codes " " ++ decimal every
entry_text (entry.Cancelled timer) = codes "cancelled " ++ decimal timer
entry_text (entry.Polled now) = codes "polled " ++ decimal now
entry_text (entry.Due timer) = codes "due " ++ decimal timer
entry_text (entry.Ready handle kind) =
    codes "ready " ++ decimal handle.0 ++ codes " " ++ kind_text kind
entry_text (entry.Posted handle kind from seq) =
    codes "posted " ++ decimal handle.0 ++ codes " " ++ kind_text kind ++ codes " " ++ decimal from
    ++ codes " " ++ decimal seq
entry_text (entry.Stale handle from seq) =
    codes "stale " ++ decimal handle.0 ++ codes " " ++ decimal from ++ codes " " ++ decimal seq
entry_text (entry.Started event) = codes "started " ++ decimal event
entry_text (entry.Returned event answer said) =
    codes "returned " ++ decimal event ++ codes " " ++ answer_text answer ++ codes " "
    ++ note_text said
entry_text (entry.Masked handle mask) =
    codes "masked " ++ decimal handle.0 ++ codes " " ++ mask_text mask
entry_text (entry.Suspended handle) = codes "suspended " ++ decimal handle.0
entry_text (entry.Resumed handle) = codes "resumed " ++ decimal handle.0
entry_text (entry.Refused live fault said) =
    codes "refused " ++ decimal live ++ codes " " ++ fault_text fault ++ codes " " ++ note_text said
entry_text (entry.Removed handle) = codes "removed " ++ decimal handle.0
entry_text (entry.Closed handle said) =
    codes "closed " ++ decimal handle.0 ++ codes " " ++ note_text said
entry_text entry.Ended = codes "ended"

-- its line
unfoldable pub entry_line : Entry ServerNote → List ℕ
entry_line e = entry_text e ++ codes "\n"

-- the lines of entries
abbrev pub entry_lines : List (Entry ServerNote) → List ℕ
entry_lines entries = flat_map entry_line entries

-- the first line
unfoldable pub most_line : ℕ → List ℕ
most_line most = codes "most " ++ decimal most ++ codes "\n"

-- the text of a journal
abbrev pub journal_text : ℕ → List (Entry ServerNote) → List ℕ
journal_text most entries = most_line most ++ entry_lines entries
