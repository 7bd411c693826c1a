use Rattle.std.proofs.Common.{sym, subst, List}
use Rattle.reactor_journal.specs.declared.entry.Entry.{Entry}
use Rattle.log_handler.specs.declared.note.ServerNote.{ServerNote}
use Rattle.journal_viewer.specs.declared.ending.ViewEnd.{ViewEnd}
use Rattle.journal_reader.specs.Journals.{IsJournalText}
use Rattle.journal_viewer.specs.Views.{ViewsText}
use Rattle.journal_viewer.proofs.Verdicts.{views_drawn}
use Rattle.journal_viewer.proofs.viewing.view_text.Goals as goal

pub returns : goal.returns
returns g c =
    let o = g.K.Sink.facts c.args.output in
    let p = g.K.Sink.facts c.draw-drawn.result.1 in
    let text = c.args.text.items in
    let spells = subst (λ (journal : List (Entry ServerNote)).
    IsJournalText text c.in-Ok.read.0 journal) (sym c.as_slice-entries.ensures)
    (subst (λ bytes. IsJournalText bytes c.in-Ok.read.0 c.in-Ok.read.1.entries)
    c.deref.ensures.value c.in-Ok.ensures.journal) in
    subst (λ (end : ViewEnd). ViewsText text o p end) (sym c.end_of.ensures)
    (views_drawn text c.in-Ok.read.0 c.as_slice-entries.result.now c.in-Ok-verdict.bad
    c.draw-drawn.result.0 o p spells c.in-Ok-verdict.ensures c.draw-drawn.ensures)
