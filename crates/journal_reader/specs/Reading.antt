-- What the lines of a journal's text are read as, word by word. Each function is the inverse of one
-- that puts a text.
use Rattle.std.specs.Prelude.{ℕ, ◌-◌, ◌^◌, ◌==◌, nat_lt, nat_le, Bool, true, false, ◌&&◌}
use Rattle.std.specs.Prelude.{if◌then◌else◌, List, [], ◌∷◌, length, slice_index, ℤ, pos, negsuc}
use Rattle.std.specs.Prelude.{Option, Some, None, option_map, option_and_then, codes, decimal}
use Rattle.std.specs.Prelude.{Result, Ok, Err}
use Rattle.std.specs.List.{list_all}
use Rattle.std.specs.Str.{bytes_eq}
use Rattle.std.specs.Str.Parse.{digits_value}
use Rattle.text_parts.specs.Parts.{parts}
use Rattle.hex.specs.Hex.{decode_of}
use Rattle.ev_types.specs.declared.upcall.Mask.{Mask}
use Rattle.ev_types.specs.declared.upcall.Kind.{Kind}
use Rattle.ev_types.specs.declared.upcall.Kind.TheVariants.{Read, Write, Except}
use Rattle.ev_types.specs.declared.upcall.Answer.{Answer}
use Rattle.ev_types.specs.declared.upcall.Answer.TheVariants.{Keep, Again, Close}
use Rattle.cdr_record.specs.declared.record.LogRecord.{LogRecord}
use Rattle.log_handler.specs.log_lines.specs.declared.end_kind.EndKind.{EndKind}
use Rattle.log_handler.specs.log_lines.specs.declared.end_kind.EndKind.TheVariants.{End, Partial}
use Rattle.log_handler.specs.log_lines.specs.declared.end_kind.EndKind.TheVariants.{Malformed}
use Rattle.log_handler.specs.log_lines.specs.declared.end_kind.EndKind.TheVariants.{Failed}
use Rattle.log_handler.specs.log_lines.specs.declared.end_kind.EndKind.TheVariants.{NoMemory, Idle}
use Rattle.log_handler.specs.log_lines.specs.declared.end_kind.EndKind.TheVariants.{Stopped}
use Rattle.log_handler.specs.log_lines.specs.declared.end_kind.EndKind.TheVariants.{Refused}
use Rattle.reactor_model.specs.reactor_journal.specs.declared.entry.Entry.{Entry}
use Rattle.reactor_model.specs.reactor_journal.specs.declared.entry.Entry.TheVariants as entry
use Rattle.log_handler.specs.declared.note.ServerNote.{ServerNote}
use Rattle.log_handler.specs.declared.note.ServerNote.TheVariants as note

-- ---- steps

-- the second step, if the first gave a value
infixl 10 ◌>>=◌
abbrev pub ◌>>=◌ : {A B : Type 0} → Option A → (A → Option B) → Option B
o >>= f = option_and_then f o

-- what the first part says, and the parts after it
abbrev pub next : {V : Type 0} → (List ℕ → Option V) → List (List ℕ) → Option (V × List (List ℕ))
next value [] = None
next value (part ∷ rest) = option_map (λ v. (v, rest)) (value part)

-- whether no part is left, and a value if none is
abbrev pub no_more : List (List ℕ) → Bool
no_more [] = true
no_more (part ∷ rest) = false

abbrev pub at_end : {V : Type 0} → List (List ℕ) → Option V → Option V
at_end parts o = if no_more parts then o else None

-- ---- numbers

-- decimal digits without a leading zero, of a number of 64 bits
abbrev pub is_number : List ℕ → Bool
is_number word = bytes_eq word (decimal (digits_value 10 word))
    && nat_lt (digits_value 10 word) (2 ^ 64)

unfoldable pub number_of : List ℕ → Option ℕ
number_of word = if is_number word then Some (digits_value 10 word) else None

-- a number from 0 on, and one below 0, of 64 bits
abbrev pub from_zero : Option ℕ → Option ℤ
from_zero None = None
from_zero (Some n) = if nat_lt n (2 ^ 63) then Some (pos n) else None

abbrev pub below_zero : Option ℕ → Option ℤ
below_zero None = None
below_zero (Some n) = if nat_lt 0 n && nat_le n (2 ^ 63) then Some (negsuc (n - 1)) else None

unfoldable pub signed_of : List ℕ → Option ℤ
signed_of [] = None
signed_of (byte ∷ bytes) = if byte
    == 45 then below_zero (number_of bytes) else from_zero (number_of (byte ∷ bytes))

-- one of 32 bits
abbrev pub narrowed : ℤ → Option ℤ
narrowed (pos n) = if nat_lt n (2 ^ 31) then Some (pos n) else None
narrowed (negsuc n) = if nat_lt n (2 ^ 31) then Some (negsuc n) else None

unfoldable pub narrow_of : List ℕ → Option ℤ
narrow_of word = signed_of word >>= narrowed

-- ---- single words

-- a letter, or a hyphen
abbrev pub letter_of : ℕ → ℕ → Option Bool
letter_of letter byte = if byte == letter then Some true else if byte
    == 45 then Some false else None

unfoldable pub mask_of : List ℕ → Option Mask
mask_of word = if length word == 3 then (do
  read ← letter_of 114 (slice_index word 0)
  write ← letter_of 119 (slice_index word 1)
  except ← letter_of 101 (slice_index word 2)
  Some (record { read = read; write = write; except = except })) else None

unfoldable pub kind_of : List ℕ → Option Kind
kind_of word =
    if bytes_eq word (codes "read") then Some Read
    else if bytes_eq word (codes "write") then Some Write
    else if bytes_eq word (codes "except") then Some Except
    else None

unfoldable pub answer_of : List ℕ → Option Answer
answer_of word =
    if bytes_eq word (codes "keep") then Some Keep
    else if bytes_eq word (codes "again") then Some Again
    else if bytes_eq word (codes "close") then Some Close
    else None

unfoldable pub fault_of : List ℕ → Option Bool
fault_of word =
    if bytes_eq word (codes "yes") then Some true
    else if bytes_eq word (codes "no") then Some false
    else None

-- how a connection ended, with a count after a colon
abbrev pub end_with : List ℕ → ℕ → Option EndKind
end_with name count =
    if bytes_eq name (codes "partial") then Some (Partial count)
    else if bytes_eq name (codes "malformed") then Some (Malformed count)
    else None

unfoldable pub counted_end_of : List ℕ → Option EndKind
counted_end_of word = do
  name ← next Some (parts 58 word)
  count ← next number_of name.1
  at_end count.1 (end_with name.0 count.0)

unfoldable pub end_of : List ℕ → Option EndKind
end_of word =
    if bytes_eq word (codes "end") then Some End
    else if bytes_eq word (codes "failed") then Some Failed
    else if bytes_eq word (codes "nomemory") then Some NoMemory
    else if bytes_eq word (codes "idle") then Some Idle
    else if bytes_eq word (codes "stopped") then Some Stopped
    else if bytes_eq word (codes "refused") then Some Refused
    else counted_end_of word

-- ---- records

-- a hexadecimal digit in lower case
abbrev pub is_lower_digit : ℕ → Bool
is_lower_digit byte = if nat_lt byte 58 then nat_le 48 byte else nat_le 97 byte && nat_le byte 102

-- the value of an answer that is no refusal
abbrev pub value_of : {T E : Type 0} → Result T E → Option T
value_of (Ok value) = Some value
value_of (Err refused) = None

-- the bytes of a message, by at most 131,072 digits in lower case
unfoldable pub message_of : List ℕ → Option (List ℕ)
message_of digits = if nat_le (length digits) 131072
    && list_all is_lower_digit digits then value_of (decode_of digits) else None

-- a record's four numbers
pub record Numbers : Type 0 where
  pub kind : ℤ
  pub pid : ℤ
  pub sec : ℤ
  pub usec : ℤ

unfoldable pub numbers_of : List (List ℕ) → Option (Numbers × List (List ℕ))
numbers_of parts = do
  kind ← next narrow_of parts
  pid ← next narrow_of kind.1
  sec ← next signed_of pid.1
  usec ← next narrow_of sec.1
  Some (record { kind = kind.0; pid = pid.0; sec = sec.0; usec = usec.0 }, usec.1)

abbrev pub with_message : Numbers → List ℕ → LogRecord
with_message numbers text = record {
  kind = numbers.kind;
  pid = numbers.pid;
  sec = numbers.sec;
  usec = numbers.usec;
  text = text;
}

unfoldable pub record_of : List ℕ → Option LogRecord
record_of word = do
  numbers ← numbers_of (parts 58 word)
  digits ← next Some numbers.1
  text ← at_end digits.1 (message_of digits.0)
  Some (with_message numbers.0 text)

abbrev pub records_of : List (List ℕ) → Option (List LogRecord)
records_of [] = Some []
records_of (word ∷ words) = do
  first ← record_of word
  rest ← records_of words
  Some (first ∷ rest)

-- ---- notes

-- a connection, how many bytes it took, and how many records follow
unfoldable pub counts_of : List (List ℕ) → Option ((ℕ × ℕ × ℕ) × List (List ℕ))
counts_of words = do
  conn ← next number_of words
  took ← next number_of conn.1
  count ← next number_of took.1
  Some ((conn.0, took.0, count.0), count.1)

unfoldable pub piece_of : List (List ℕ) → Option ServerNote
piece_of words = do
  counts ← counts_of words
  records ← records_of counts.1
  if length records == counts.0.2 then Some (note.Piece counts.0.0 counts.0.1 records) else None

unfoldable pub accepted_of : List (List ℕ) → Option ServerNote
accepted_of words = do
  conn ← next number_of words
  at_end conn.1 (Some (note.Accepted conn.0))

unfoldable pub finished_of : List (List ℕ) → Option ServerNote
finished_of words = do
  conn ← next number_of words
  end ← next end_of conn.1
  at_end end.1 (Some (note.Finished conn.0 end.0))

-- a note without records
unfoldable pub short_note_of : List ℕ → List (List ℕ) → Option ServerNote
short_note_of name words =
    if bytes_eq name (codes "none") then at_end words (Some note.NoneWaiting)
    else if bytes_eq name (codes "end") then finished_of words
    else if bytes_eq name (codes "accepted") then accepted_of words
    else if bytes_eq name (codes "listenerfailed") then at_end words (Some note.ListenerFailed)
    else if bytes_eq name (codes "shut") then at_end words (Some note.ListenerShut)
    else None

unfoldable pub note_of : List (List ℕ) → Option ServerNote
note_of words = do
  name ← next Some words
  if bytes_eq name.0 (codes "piece") then piece_of name.1 else short_note_of name.0 name.1

-- ---- entries

unfoldable pub opened_of : List (List ℕ) → Option (Entry ServerNote × List (List ℕ))
opened_of words = do
  handle ← next number_of words
  mask ← next mask_of handle.1
  Some (entry.Opened (record { 0 = handle.0 }) mask.0, mask.1)

unfoldable pub masked_of : List (List ℕ) → Option (Entry ServerNote × List (List ℕ))
masked_of words = do
  handle ← next number_of words
  mask ← next mask_of handle.1
  Some (entry.Masked (record { 0 = handle.0 }) mask.0, mask.1)

unfoldable pub scheduled_of : List (List ℕ) → Option (Entry ServerNote × List (List ℕ))
scheduled_of words = do
  timer ← next number_of words
  handle ← next number_of timer.1
  first ← next number_of handle.1
  every ← next number_of first.1
  Some (entry.Scheduled timer.0 (record { 0 = handle.0 }) first.0 every.0, every.1)

unfoldable pub ready_of : List (List ℕ) → Option (Entry ServerNote × List (List ℕ))
ready_of words = do
  handle ← next number_of words
  kind ← next kind_of handle.1
  Some (entry.Ready (record { 0 = handle.0 }) kind.0, kind.1)

unfoldable pub posted_of : List (List ℕ) → Option (Entry ServerNote × List (List ℕ))
posted_of words = do
  handle ← next number_of words
  kind ← next kind_of handle.1
  from ← next number_of kind.1
  seq ← next number_of from.1
  Some (entry.Posted (record { 0 = handle.0 }) kind.0 from.0 seq.0, seq.1)

unfoldable pub stale_of : List (List ℕ) → Option (Entry ServerNote × List (List ℕ))
stale_of words = do
  handle ← next number_of words
  from ← next number_of handle.1
  seq ← next number_of from.1
  Some (entry.Stale (record { 0 = handle.0 }) from.0 seq.0, seq.1)

-- an entry that has one number and no more
unfoldable pub entry_with : List ℕ → ℕ → Option (Entry ServerNote)
entry_with name number =
    if bytes_eq name (codes "started") then Some (entry.Started number)
    else if bytes_eq name (codes "polled") then Some (entry.Polled number)
    else if bytes_eq name (codes "due") then Some (entry.Due number)
    else if bytes_eq name (codes "cancelled") then Some (entry.Cancelled number)
    else if bytes_eq name (codes "suspended") then Some (entry.Suspended (record { 0 = number }))
    else if bytes_eq name (codes "resumed") then Some (entry.Resumed (record { 0 = number }))
    else if bytes_eq name (codes "removed") then Some (entry.Removed (record { 0 = number }))
    else None

unfoldable pub numbered_of : List ℕ → List (List ℕ) → Option (Entry ServerNote × List (List ℕ))
numbered_of name words = do
  number ← next number_of words
  e ← entry_with name number.0
  Some (e, number.1)

-- an entry without a note, and the words after its own
unfoldable pub plain_of : List ℕ → List (List ℕ) → Option (Entry ServerNote × List (List ℕ))
plain_of name words =
    if bytes_eq name (codes "ready") then ready_of words
    else if bytes_eq name (codes "opened") then opened_of words
    else if bytes_eq name (codes "masked") then masked_of words
    else if bytes_eq name (codes "scheduled") then scheduled_of words
    else if bytes_eq name (codes "posted") then posted_of words
    else if bytes_eq name (codes "stale") then stale_of words
    else if bytes_eq name (codes "ended") then Some (entry.Ended, words)
    else numbered_of name words

unfoldable pub returned_of : List (List ℕ) → Option (Entry ServerNote)
returned_of words = do
  event ← next number_of words
  answer ← next answer_of event.1
  said ← note_of answer.1
  Some (entry.Returned event.0 answer.0 said)

unfoldable pub refused_of : List (List ℕ) → Option (Entry ServerNote)
refused_of words = do
  live ← next number_of words
  fault ← next fault_of live.1
  said ← note_of fault.1
  Some (entry.Refused live.0 fault.0 said)

unfoldable pub closed_of : List (List ℕ) → Option (Entry ServerNote)
closed_of words = do
  handle ← next number_of words
  said ← note_of handle.1
  Some (entry.Closed (record { 0 = handle.0 }) said)

-- an entry without a note, if no word is left after it
unfoldable pub whole_of : List ℕ → List (List ℕ) → Option (Entry ServerNote)
whole_of name words = plain_of name words >>= λ e. at_end e.1 (Some e.0)

unfoldable pub named_of : List ℕ → List (List ℕ) → Option (Entry ServerNote)
named_of name words =
    if bytes_eq name (codes "returned") then returned_of words
    else if bytes_eq name (codes "closed") then closed_of words
    else if bytes_eq name (codes "refused") then refused_of words
    else whole_of name words

-- the entry that a line says, without its line feed
unfoldable pub entry_of : List ℕ → Option (Entry ServerNote)
entry_of line = next Some (parts 32 line) >>= λ name. named_of name.0 name.1

-- ---- the first line

-- how many handlers may be live at once
abbrev pub limited : ℕ → Option ℕ
limited n = if nat_le 1 n && nat_le n 4097 then Some n else None

unfoldable pub most_of : List ℕ → Option ℕ
most_of line = do
  name ← next Some (parts 32 line)
  most ← next number_of name.1
  at_end most.1 (if bytes_eq name.0 (codes "most") then limited most.0 else None)
