-- What becomes of a text whose journal was read and checked.
use Rattle.std.proofs.Common.{ℕ, List, Option, Some, None}
use Rattle.ev_base.specs.Sink.{SinkFacts}
use Rattle.reactor_journal.specs.declared.entry.Entry.{Entry}
use Rattle.log_handler.specs.declared.note.ServerNote.{ServerNote}
use Rattle.journal_reader.specs.Journals.{IsJournalText}
use Rattle.journal_picture.specs.declared.picture.Drawn.{Drawn}
use Rattle.journal_picture.specs.declared.picture.Drawn.TheVariants.{Whole, WriteFault, NoMemory}
use Rattle.journal_picture.specs.Pictures.{picture, Draws}
use Rattle.journal_viewer.specs.Views.{IsVerdict, ViewsText, ended_by}

pub views_drawn : (text : List ℕ) (most : ℕ) (journal : List (Entry ServerNote)) (bad : Option ℕ)
    (drawn : Drawn) (o p : SinkFacts)
    → IsJournalText text most journal → IsVerdict journal most bad
    → Draws o (picture journal bad) p drawn → ViewsText text o p (ended_by bad drawn)
views_drawn text most journal None Whole o p spells verdict written =
    (journal, record { most = most; spells = spells; verdict = verdict }, written)
views_drawn text most journal (Some at) Whole o p spells verdict written =
    (journal, record { most = most; spells = spells; verdict = verdict }, written)
views_drawn text most journal bad WriteFault o p spells verdict written =
    (journal, bad, record { most = most; spells = spells; verdict = verdict }, written)
views_drawn text most journal bad NoMemory o p spells verdict written = written
