-- What `logd audit` did, by how it ended. The input told the facts i before and tells j now, the
-- output o and p; `limit` is how many bytes may be read.
use Rattle.std.specs.Prelude.{◌≡◌, ℕ, List, [], ◌∷◌, ◌++◌, length, codes, decimal}
use Rattle.ev_base.specs.Source.{SourceFacts}
use Rattle.ev_base.specs.Sink.{SinkFacts}
use Rattle.sink_buffer.specs.Written.{TakesAll, BreaksOff}
use Rattle.bounded_input.specs.Reading.{IsReadWhole, ReadsSome, ReadsUpToFault, ReadsTooLong}
use Rattle.journal_check.specs.reactor_journal.specs.declared.entry.Entry.{Entry}
use Rattle.journal_check.specs.reactor_journal.specs.Follow.{Legal}
use Rattle.journal_reader.specs.log_handler.specs.declared.note.ServerNote.{ServerNote}
use Rattle.journal_check.specs.Refusal.{RefusesAt}
use Rattle.journal_check.specs.declared.reading.CheckRefused.{CheckRefused}
use Rattle.journal_check.specs.declared.reading.CheckRefused.TheVariants as refused
use Rattle.journal_reader.specs.Journals.{IsJournalText, IsBadAt}
use Rattle.cmd_audit.specs.declared.auditing.AuditEnd.{AuditEnd}
use Rattle.cmd_audit.specs.declared.auditing.AuditEnd.TheVariants as end

-- the line of a legal journal of so many entries
abbrev pub legal_line : ℕ → List ℕ
legal_line entries = codes "legal " ++ decimal entries ++ 10 ∷ []

-- a text spells a legal journal
pub record SpellsLegal (text : List ℕ) (journal : List (Entry ServerNote)) : Type 0 where
  pub most : ℕ
  pub spells : IsJournalText text most journal
  pub legal : Legal journal most

-- it is legal, and its line was written
pub record IsLegal (limit : ℕ) (i : SourceFacts) (o : SinkFacts) (j : SourceFacts)
    (p : SinkFacts) : Type 0 where
  pub text : List ℕ
  pub whole : IsReadWhole limit i j text
  pub journal : List (Entry ServerNote)
  pub legal : SpellsLegal text journal
  pub written : TakesAll o (legal_line (length journal)) p

-- it is legal, and a write of its line failed
pub record IsWriteFault (limit : ℕ) (i : SourceFacts) (o : SinkFacts) (j : SourceFacts)
    (p : SinkFacts) : Type 0 where
  pub text : List ℕ
  pub whole : IsReadWhole limit i j text
  pub journal : List (Entry ServerNote)
  pub legal : SpellsLegal text journal
  pub written : BreaksOff o (legal_line (length journal)) p

-- the text is bad, first at this line
pub record IsBadText (limit : ℕ) (i j : SourceFacts) (line : ℕ) : Type 0 where
  pub text : List ℕ
  pub whole : IsReadWhole limit i j text
  pub bad : IsBadAt text line

-- the first entry that may not follow those before it has this number
pub record IsIllegal (limit : ℕ) (i j : SourceFacts) (at : ℕ) : Type 0 where
  pub text : List ℕ
  pub whole : IsReadWhole limit i j text
  pub most : ℕ
  pub journal : List (Entry ServerNote)
  pub spells : IsJournalText text most journal
  pub refuses : RefusesAt journal most at

-- the line of a legal journal of so many entries was written, or a write of it failed
abbrev pub WritesLegal : SinkFacts → ℕ → SinkFacts → AuditEnd → Type 0
WritesLegal o entries p end.Legal = TakesAll o (legal_line entries) p
WritesLegal o entries p end.WriteFault = BreaksOff o (legal_line entries) p
WritesLegal o entries p _ = ⊥

-- what became of a text that was read whole
abbrev pub AuditsText : List ℕ → SinkFacts → SinkFacts → AuditEnd → Type 0
AuditsText text o p end.Legal = (journal : List (Entry ServerNote)) × SpellsLegal text journal
    × TakesAll o (legal_line (length journal)) p
AuditsText text o p end.WriteFault =
    (journal : List (Entry ServerNote)) × SpellsLegal text journal
    × BreaksOff o (legal_line (length journal)) p
AuditsText text o p (end.BadText line) = IsBadAt text line × (p ≡ o)
AuditsText text o p (end.Illegal at) =
    ((most : ℕ) × (journal : List (Entry ServerNote)) × IsJournalText text most journal
    × RefusesAt journal most at) × (p ≡ o)
AuditsText text o p end.NoMemory = p ≡ o
AuditsText text o p _ = ⊥

-- how it ends if the check refused the journal
abbrev pub ended_by : CheckRefused → AuditEnd
ended_by (refused.Illegal at) = end.Illegal at
ended_by refused.NoMemory = end.NoMemory

-- what each ending says; but for a line that was written or failed to be, the output is as it was
abbrev pub Audits : ℕ → SourceFacts → SinkFacts → SourceFacts → SinkFacts → AuditEnd → Type 0
Audits limit i o j p end.Legal = IsLegal limit i o j p
Audits limit i o j p end.WriteFault = IsWriteFault limit i o j p
Audits limit i o j p (end.BadText line) = IsBadText limit i j line × (p ≡ o)
Audits limit i o j p (end.Illegal at) = IsIllegal limit i j at × (p ≡ o)
Audits limit i o j p end.ReadFault = ReadsUpToFault limit i j × (p ≡ o)
Audits limit i o j p end.TooLong = ReadsTooLong limit i j × (p ≡ o)
Audits limit i o j p end.NoMemory = ReadsSome limit i j × (p ≡ o)
