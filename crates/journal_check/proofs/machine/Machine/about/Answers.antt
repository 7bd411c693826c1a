use Rattle.std.proofs.Common.{option_map, sym, ap, ◌∙◌, subst}
use Rattle.reactor_journal.specs.declared.entry.Entry.{Entry}
use Rattle.reactor_summary.specs.Summary as S
use Rattle.journal_check.specs.Fronts as K
use Rattle.journal_check.proofs.machine.Machine.about.Goals as goal

pub returns-in-Due : goal.returns-in-Due
returns-in-Due g c sound =
    subst (λ (e : Entry g.row.N.Denot). K.IsAbout c.args.self.now e c.handle_of.result)
    (sym c.in-Due.is) (c.handle_of.ensures
    ∙ ap (λ (s : S.Summary). option_map K.timer_handle (S.armed_timer s c.in-Due.timer))
    c.self.view_is)

pub returns-in-Started : goal.returns-in-Started
returns-in-Started g c sound =
    subst (λ (e : Entry g.row.N.Denot). K.IsAbout c.args.self.now e c.handle_of-in-Started.result)
    (sym c.in-Started.is)
    (c.handle_of-in-Started.ensures ∙ ap
    (λ (s : S.Summary). option_map K.waiting_handle (S.waiting_event s c.in-Started.event))
    c.self.view_is)

pub returns-in-Returned : goal.returns-in-Returned
returns-in-Returned g c sound =
    subst (λ (e : Entry g.row.N.Denot). K.IsAbout c.args.self.now e c.handle_of-in-Returned.result)
    (sym c.in-Returned.is)
    (c.handle_of-in-Returned.ensures ∙ ap
    (λ (s : S.Summary). option_map K.open_handle (S.open_event s c.in-Returned.event))
    c.self.view_is)
