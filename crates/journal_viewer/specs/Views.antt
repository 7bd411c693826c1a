-- What viewing a journal did, by how it ended (this project's own). The input told the facts i
-- before and tells j now, the output o and p; `limit` is how many bytes may be read.
use Rattle.std.specs.Prelude.{◌≡◌, ℕ, List, Option, Some, None}
use Rattle.ev_base.specs.Source.{SourceFacts}
use Rattle.ev_base.specs.Sink.{SinkFacts}
use Rattle.log_handler.specs.sink_buffer.specs.Written.{TakesAll, BreaksOff}
use Rattle.bounded_input.specs.Reading.{IsReadWhole, ReadsSome, ReadsUpToFault, ReadsTooLong}
use Rattle.reactor_journal.specs.declared.entry.Entry.{Entry}
use Rattle.reactor_journal.specs.Follow.{Legal}
use Rattle.log_handler.specs.declared.note.ServerNote.{ServerNote}
use Rattle.journal_check.specs.Refusal.{RefusesAt}
use Rattle.journal_reader.specs.Journals.{IsJournalText, IsBadAt}
use Rattle.journal_picture.specs.declared.picture.Drawn.{Drawn}
use Rattle.journal_picture.specs.declared.picture.Drawn.TheVariants as drawn
use Rattle.journal_viewer.specs.declared.ending.ViewEnd.{ViewEnd}
use Rattle.journal_viewer.specs.declared.ending.ViewEnd.TheVariants as end
use Rattle.journal_picture.specs.Pictures.{picture}

-- the journal is legal, or this is the first entry that may not follow those before it
abbrev pub IsVerdict : List (Entry ServerNote) → ℕ → Option ℕ → Type 0
IsVerdict journal most None = Legal journal most
IsVerdict journal most (Some at) = RefusesAt journal most at

-- how it ends, by what the journal was found to be and how drawing ended
abbrev pub ended_by : Option ℕ → Drawn → ViewEnd
ended_by None drawn.Whole = end.Drawn
ended_by (Some at) drawn.Whole = end.Illegal at
ended_by bad drawn.WriteFault = end.WriteFault
ended_by bad drawn.NoMemory = end.NoMemory

-- a text spells a journal, of which this was found
pub record Spells (text : List ℕ) (journal : List (Entry ServerNote)) (bad : Option ℕ) : Type 0
  where
    pub most : ℕ
    pub spells : IsJournalText text most journal
    pub verdict : IsVerdict journal most bad

-- a text spells a journal, of which this was found, and its picture was written
abbrev pub DrawsText : List ℕ → SinkFacts → SinkFacts → Option ℕ → Type 0
DrawsText text o p bad = (journal : List (Entry ServerNote)) × Spells text journal bad
    × TakesAll o (picture journal bad) p

-- a text spells a journal, and a write of its picture failed
abbrev pub BreaksText : List ℕ → SinkFacts → SinkFacts → Type 0
BreaksText text o p = (journal : List (Entry ServerNote)) × (bad : Option ℕ)
    × Spells text journal bad × BreaksOff o (picture journal bad) p

-- what became of a text that was read whole
abbrev pub ViewsText : List ℕ → SinkFacts → SinkFacts → ViewEnd → Type 0
ViewsText text o p end.Drawn = DrawsText text o p None
ViewsText text o p (end.Illegal at) = DrawsText text o p (Some at)
ViewsText text o p end.WriteFault = BreaksText text o p
ViewsText text o p (end.BadText line) = IsBadAt text line × (p ≡ o)
ViewsText text o p end.NoMemory = p ≡ o
ViewsText text o p _ = ⊥

-- What each ending says. A journal that is legal was drawn whole, and another up to its first bad
-- entry; but for pictures, or a front of one if a write failed, the output is as it was.
abbrev pub Views : ℕ → SourceFacts → SinkFacts → SourceFacts → SinkFacts → ViewEnd → Type 0
Views limit i o j p end.Drawn = (text : List ℕ) × IsReadWhole limit i j text
    × DrawsText text o p None
Views limit i o j p (end.Illegal at) =
    (text : List ℕ) × IsReadWhole limit i j text × DrawsText text o p (Some at)
Views limit i o j p end.WriteFault =
    (text : List ℕ) × IsReadWhole limit i j text × BreaksText text o p
Views limit i o j p (end.BadText line) =
    ((text : List ℕ) × IsReadWhole limit i j text × IsBadAt text line) × (p ≡ o)
Views limit i o j p end.ReadFault = ReadsUpToFault limit i j × (p ≡ o)
Views limit i o j p (end.TooLong most) = ReadsTooLong limit i j × (p ≡ o) × (most ≡ limit)
Views limit i o j p end.NoMemory = ReadsSome limit i j × (p ≡ o)
