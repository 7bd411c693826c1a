use Rattle.std.proofs.Common.{◌==◌, sym, ap, ◌∙◌}
use Rattle.std.specs.List.{list_any}
use Rattle.reactor_summary.specs.declared.parts.WaitingEvent.{WaitingEvent}
use Rattle.journal_check.proofs.Queue.{none_wide}
use Rattle.journal_check.proofs.waiting.Waiting.first_lane.Goals as goal

pub returns-clause-none : goal.returns-clause-none
returns-clause-none c q =
    ap (list_any (λ (w : WaitingEvent). c.args.handle.0 == w.handle.0)) (sym c.self.view_is)
    ∙ none_wide c.args.handle.0 c.self.inside.events.entries (c.first_lane.ensures.none q)
    c.self.invariant.narrow
