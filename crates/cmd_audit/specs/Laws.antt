-- What `logd audit` makes of the text of a legal journal.
use Rattle.std.specs.Prelude.{◌≡◌, ◌<◌, ℕ, List, length, Some}
use Rattle.ev_base.specs.Counts.{Rose}
use Rattle.ev_base.specs.Source.{SourceFacts}
use Rattle.ev_base.specs.Sink.{SinkFacts}
use Rattle.sink_buffer.specs.Written.{TakesAll, BreaksOff}
use Rattle.journal_check.specs.reactor_journal.specs.declared.entry.Entry.{Entry}
use Rattle.journal_check.specs.reactor_journal.specs.Follow.{Legal}
use Rattle.journal_reader.specs.log_handler.specs.declared.note.ServerNote.{ServerNote}
use Rattle.journal_reader.specs.Journals.{IsJournalText}
use Rattle.cmd_audit.specs.Audits.{Audits, legal_line}
use Rattle.cmd_audit.specs.declared.auditing.AuditEnd.{AuditEnd}
use Rattle.cmd_audit.specs.declared.auditing.AuditEnd.TheVariants as end

-- The line of a legal journal of so many entries was written, or a front of it if a write
-- failed; or nothing was, if a read failed, the text is longer than the limit, or there was no
-- memory. It is neither bad text nor illegal.
abbrev pub Passes : ℕ → ℕ → ℕ → SourceFacts → SinkFacts → SourceFacts → SinkFacts → AuditEnd
    → Type 0
Passes limit bytes entries i o j p end.Legal = TakesAll o (legal_line entries) p
Passes limit bytes entries i o j p end.WriteFault = BreaksOff o (legal_line entries) p
Passes limit bytes entries i o j p end.ReadFault = Rose i.faults j.faults × (p ≡ o)
Passes limit bytes entries i o j p end.TooLong = (limit < bytes) × (p ≡ o)
Passes limit bytes entries i o j p end.NoMemory = p ≡ o
Passes limit bytes entries i o j p (end.BadText line) = ⊥
Passes limit bytes entries i o j p (end.Illegal at) = ⊥

-- So it is for each input that has nothing left but the text of a legal journal, within the limits
-- of the text.
abbrev pub LegalJournalsPass : Type 0
LegalJournalsPass =
    (limit most : ℕ) (given text : List ℕ) (journal : List (Entry ServerNote)) (i j : SourceFacts)
    (o p : SinkFacts) (how : AuditEnd)
    → i.bytes ≡ Some (record { given = given; left = text }) → IsJournalText text most journal
    → Legal journal most → Audits limit i o j p how
    → Passes limit (length text) (length journal) i o j p how
