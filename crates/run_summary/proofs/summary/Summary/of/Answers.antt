use Rattle.std.proofs.Common.{subst, List}
use Rattle.std.proofs.lemmas.List.{take_all}
use Rattle.reactor_journal.specs.declared.entry.Entry.{Entry}
use Rattle.log_handler.specs.declared.note.ServerNote.{ServerNote}
use Rattle.run_summary.proofs.Counting.{TellsFirst, tells_more, summarizes}
use Rattle.run_summary.proofs.summary.Summary.of.Goals as goal

pub loop-entry-preserved : goal.loop-entry-preserved
loop-entry-preserved c = tells_more c.loop-entry.summary _ c.args.entries.now
    c.loop-entry.entry-index c.entry-item.result c.loop-entry-test.true c.entry-item.is
    c.loop-entry.invariant c.add_entry.ensures

pub returns : goal.returns
returns c = summarizes c.loop-entry.summary c.args.entries.now
    (subst (λ (es : List (Entry ServerNote)). TellsFirst c.loop-entry.summary es)
    (take_all c.loop-entry.entry-index c.args.entries.now c.loop-entry-test.false)
    c.loop-entry.invariant)
