use Rattle.std.proofs.Common.{◌==◌, sym, ap, ◌∙◌}
use Rattle.std.specs.BTreeMap.{is_at}
use Rattle.std.specs.List.{find}
use Rattle.std.specs.Ordering.{nat_cmp}
use Rattle.reactor_summary.specs.declared.parts.WaitingEvent.{WaitingEvent}
use Rattle.journal_check.proofs.Keyed.{find_looked_up}
use Rattle.journal_check.proofs.Queue.{own_agrees_back}
use Rattle.journal_check.proofs.waiting.Waiting.find.Goals as goal

pub returns : goal.returns
returns c =
    c.get.ensures.value
    ∙ (sym (find_looked_up (is_at (nat_cmp c.args.event))
    (λ (w : WaitingEvent). w.event == c.args.event) c.self.inside.events.entries
    (own_agrees_back c.args.event c.self.inside.events.entries c.self.invariant.own))
    ∙ ap (find (λ (w : WaitingEvent). w.event == c.args.event)) c.self.view_is)
