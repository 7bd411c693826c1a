-- Lines that stand in a text, one after another.
use Rattle.std.specs.Prelude.{◌≡◌, ◌≤◌, ◌-◌, ◌⊎◌, ℕ, List, [], ◌∷◌, ◌++◌, drop, length, map, take}
use Rattle.cdr_record.specs.declared.record.LogRecord.{LogRecord}
use Rattle.cdr_record.specs.declared.record.RecordRef.{RecordRef}
use Rattle.log_lines.specs.Texts.{record_line}
use Rattle.task_server.specs.declared.item.Item.{Item}
use Rattle.cmd_pool.specs.declared.line.Line.{Line}
use Rattle.cmd_pool.specs.declared.line.Span.{Span}

-- a text that has grown
abbrev pub Grows : List ℕ → List ℕ → Type 0
Grows old new = (more : List ℕ) × (new ≡ old ++ more)

-- the bytes of a part of a text
abbrev pub part : Span → List ℕ → List ℕ
part span text = take (span.end - span.start) (drop span.start text)

-- the part lies within the text
pub record IsWithin (span : Span) (text : List ℕ) : Type 0 where
  pub ordered : span.start ≤ span.end
  pub within : span.end ≤ length text

-- these bytes are that part of the text
pub record Stands (span : Span) (bytes text : List ℕ) : Type 0 where
  pub within : IsWithin span text
  pub is : part span text ≡ bytes

-- the line is of this connection, and its record is this one but for the message
pub record HasHead (line : Line) (conn : ℕ) (entry : RecordRef) : Type 0 where
  pub conn_is : line.conn ≡ conn
  pub kind_is : line.kind ≡ entry.kind
  pub pid_is : line.pid ≡ entry.pid
  pub sec_is : line.sec ≡ entry.sec
  pub usec_is : line.usec ≡ entry.usec

-- the line of an item with this record, by where it and the message stand
abbrev pub line_of : Item → RecordRef → Span → Span → Line
line_of item entry line message = record {
  conn = item.conn;
  event = item.event;
  index = item.index;
  kind = entry.kind;
  pid = entry.pid;
  sec = entry.sec;
  usec = entry.usec;
  line = line;
  message = message;
}

-- the record of a line that has this message
abbrev pub record_of : Line → List ℕ → LogRecord
record_of line message = record {
  kind = line.kind;
  pid = line.pid;
  sec = line.sec;
  usec = line.usec;
  text = message;
}

-- the line stands in the text, and is that of its record, whose message stands there too
pub record StandsIn (text : List ℕ) (line : Line) : Type 0 where
  pub message : IsWithin line.message text
  pub line_within : IsWithin line.line text
  pub is : part line.line text ≡ record_line line.conn (record_of line (part line.message text))

-- the item of a line that stands in the text
abbrev pub item_of : List ℕ → Line → Item
item_of text line = record {
  conn = line.conn;
  event = line.event;
  index = line.index;
  rec = record_of line (part line.message text);
}

-- the items of lines that stand in the text
abbrev pub items_in : List ℕ → List Line → List Item
items_in text lines = map (item_of text) lines

-- one more came after the others, or none
abbrev pub AddsOrKeeps : List Item → Item → List Item → Type 0
AddsOrKeeps old item new = (new ≡ old ++ item ∷ []) ⊎ (new ≡ old)
