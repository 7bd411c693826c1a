use Rattle.std.proofs.Common.{sym, subst}
use Rattle.reactor_journal.specs.declared.entry.Entry.{Entry}
use Rattle.log_handler.specs.declared.note.ServerNote.{ServerNote}
use Rattle.run_summary.specs.Adding.{AddsEntry}
use Rattle.run_summary.proofs.summary.Summary.add_entry.Goals as goal

pub returns-in-Returned : goal.returns-in-Returned
returns-in-Returned c = subst (λ (e : Entry ServerNote). AddsEntry c.args.self.now e c.add.new.self)
    (sym c.in-Returned.is) c.add.ensures

pub returns-in-Refused : goal.returns-in-Refused
returns-in-Refused c = subst (λ (e : Entry ServerNote).
    AddsEntry c.args.self.now e c.add-in-Refused.new.self) (sym c.in-Refused.is)
    c.add-in-Refused.ensures

pub returns-in-Closed : goal.returns-in-Closed
returns-in-Closed c = subst (λ (e : Entry ServerNote).
    AddsEntry c.args.self.now e c.add-in-Closed.new.self) (sym c.in-Closed.is)
    c.add-in-Closed.ensures
