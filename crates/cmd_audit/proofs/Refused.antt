-- What becomes of a text whose journal the check refused.
use Rattle.std.proofs.Common.{◌≡◌, ℕ, List, refl}
use Rattle.ev_base.specs.Sink.{SinkFacts}
use Rattle.journal_check.specs.reactor_journal.specs.declared.entry.Entry.{Entry}
use Rattle.journal_reader.specs.log_handler.specs.declared.note.ServerNote.{ServerNote}
use Rattle.journal_check.specs.Refusal.{RefusesAt}
use Rattle.journal_check.specs.declared.reading.CheckRefused.{CheckRefused}
use Rattle.journal_check.specs.declared.reading.CheckRefused.TheVariants as refused
use Rattle.journal_reader.specs.Journals.{IsJournalText}
use Rattle.cmd_audit.specs.Audits.{AuditsText, ended_by}

pub audits-refused : (text : List ℕ) (most : ℕ) (journal : List (Entry ServerNote)) (o : SinkFacts)
    (why : CheckRefused)
    → IsJournalText text most journal → ((at : ℕ) → why ≡ refused.Illegal at
    → RefusesAt journal most at) → AuditsText text o o (ended_by why)
audits-refused text most journal o (refused.Illegal at) spells refuses =
    ((most, journal, spells, refuses at refl), refl)
audits-refused text most journal o refused.NoMemory spells refuses = refl
