-- Log records whose messages stand one after another.
use Rattle.std.specs.Prelude.{ℕ, zero, ◌+◌, List, [], ◌∷◌, length, take, drop}
use Rattle.cdr_record.specs.declared.record.LogRecord.{LogRecord}
use Rattle.cdr_record.specs.declared.record.RecordRef.{RecordRef}
use Rattle.packed_records.specs.declared.packed.Head.{Head}

-- what a record has beside its message
abbrev pub head_of : RecordRef → Head
head_of r = record {
  kind = r.kind;
  pid = r.pid;
  sec = r.sec;
  usec = r.usec;
  length = length r.text.now;
}

-- the record of a head, with this message
abbrev pub whole : Head → List ℕ → LogRecord
whole h message = record { kind = h.kind; pid = h.pid; sec = h.sec; usec = h.usec; text = message }

-- each record takes its message off the front of those that are left
abbrev pub unpacked : List Head → List ℕ → List LogRecord
unpacked [] messages = []
unpacked (h ∷ heads) messages = whole h (take h.length messages)
    ∷ unpacked heads (drop h.length messages)

-- how many bytes the messages have in all
abbrev pub total : List Head → ℕ
total [] = zero
total (h ∷ heads) = h.length + total heads
