-- Log records whose message is borrowed.
use Rattle.cdr_record.specs.declared.record.LogRecord.{LogRecord}
use Rattle.cdr_record.specs.declared.record.RecordRef.{RecordRef}

-- the record that a borrowed one is
abbrev pub owned : RecordRef → LogRecord
owned r = record { kind = r.kind; pid = r.pid; sec = r.sec; usec = r.usec; text = r.text.now }
