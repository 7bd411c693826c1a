-- The log record of the networked logging server (C++ Network Programming, vol. 2) as CDR, the
-- Common Data Representation, spells it: a header of 8 bytes and a payload. Each number of the
-- payload is aligned from the payload's own start, so nothing stands between the fields. Version 1
-- is the book's. Version 2, whose seconds have 64 bits, is this project's own, and so is the rule
-- that padding and slack may hold anything.
--
--     version 1   version 2
--     0           0            order octet: 0 and 1 are version 1, 2 and 3 version 2;
--                              an odd one is little-endian
--     1 to 3      1 to 3       padding
--     4 to 7      4 to 7       the payload's length
--     8 to 11     8 to 11      type, signed
--     12 to 15    12 to 15     process id, signed
--     16 to 19    16 to 23     seconds, signed
--     20 to 23    24 to 27     microseconds, signed
--     24 to 27    28 to 31     the message's length
--     from 28     from 32      the message, and after it slack
use Rattle.std.specs.Prelude.{◌≡◌, ◌≤◌, ℕ, ◌+◌, ◌-◌, ◌%◌, ◌==◌, nat_lt, if◌then◌else◌, List, length}
use Rattle.std.specs.Prelude.{take, drop, slice_index, ℤ}
use Rattle.std.specs.Int.{Width, w32, w64, byte_len, cast_signed}
use Rattle.byteorder.specs.Endian.{big_number, little_number}
use Rattle.cdr_record.specs.declared.record.Order.{Order}
use Rattle.cdr_record.specs.declared.record.Order.TheVariants.{Big, Little}
use Rattle.cdr_record.specs.declared.record.LogRecord.{LogRecord}
use Rattle.cdr_record.specs.declared.bad.BadWhy.TheVariants as why
use Rattle.cdr_record.specs.declared.grammar.First.{First}
use Rattle.cdr_record.specs.declared.grammar.First.TheVariants.{More, Bad, One}

-- the unsigned number in the first `size` bytes of a list
unfoldable pub number : Order → ℕ → List ℕ → ℕ
number Big size bytes = big_number size bytes
number Little size bytes = little_number size bytes

-- the order octet, which names the version and the byte order
abbrev pub octet : List ℕ → ℕ
octet f = slice_index f 0

-- the byte order that an order octet names
unfoldable pub order_of : ℕ → Order
order_of first = if first % 2 == 0 then Big else Little

-- how wide the seconds are
unfoldable pub seconds_width : ℕ → Width
seconds_width first = if nat_lt first 2 then w32 else w64

-- how many bytes the seconds take, 4 or 8
unfoldable pub seconds_size : ℕ → ℕ
seconds_size first = byte_len (seconds_width first)

-- the unsigned number in the four bytes at a place of a spelling
abbrev pub word_at : ℕ → List ℕ → ℕ
word_at at f = number (order_of (octet f)) 4 (drop at f)

-- how many bytes the payload has, as the header says
abbrev pub payload_length : List ℕ → ℕ
payload_length f = word_at 4 f

-- how much of the payload is no message: type, process id, seconds, microseconds and the message's
-- length
abbrev pub fields_length : List ℕ → ℕ
fields_length f = 16 + seconds_size (octet f)

-- these bytes hold the fields of the record at their front
abbrev pub HasFields : List ℕ → Type 0
HasFields f = 8 + fields_length f ≤ length f

-- how many bytes the message has, as the field before it says
abbrev pub message_length : List ℕ → ℕ
message_length f = word_at (20 + seconds_size (octet f)) f

-- the seconds of the record at the front of a list
abbrev pub seconds_in : List ℕ → ℤ
seconds_in f = cast_signed (seconds_width (octet f))
    (number (order_of (octet f)) (seconds_size (octet f)) (drop 16 f))

-- the record whose fields stand at the front of a list
unfoldable pub record_in : List ℕ → LogRecord
record_in f = record {
  kind = cast_signed w32 (word_at 8 f);
  pid = cast_signed w32 (word_at 12 f);
  sec = seconds_in f;
  usec = cast_signed w32 (word_at (16 + seconds_size (octet f)) f);
  text = take (message_length f) (drop (24 + seconds_size (octet f)) f);
}

-- f spells the record r: its header is in range, it has as many bytes as the header says, the
-- message has room in it, and its fields are those of r. All other bytes of f, padding and slack,
-- are free.
pub record Spells (f : List ℕ) (r : LogRecord) : Type 0 where
  pub version : octet f ≤ 3
  pub least : fields_length f ≤ payload_length f
  pub most : payload_length f ≤ fields_length f + 65536
  pub whole : length f ≡ 8 + payload_length f
  pub room : message_length f ≤ payload_length f - fields_length f
  pub fields : r ≡ record_in f

-- What stands first in a list of bytes: more is needed to know, no record can stand there, or one
-- record of so many bytes. Nothing is asked of a byte before it is there.
unfoldable pub first_of : List ℕ → First
first_of t =
    if length t == 0 then More
    else if nat_lt 3 (octet t) then Bad why.Order
    else if nat_lt (length t) 8 then More
    else if nat_lt (payload_length t) (fields_length t) then Bad why.Length
    else if nat_lt (fields_length t + 65536) (payload_length t) then Bad why.Length
    else if nat_lt (length t) (8 + payload_length t) then More
    else if nat_lt (payload_length t - fields_length t) (message_length t) then Bad why.Message
    else One (8 + payload_length t)
