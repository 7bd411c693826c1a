use Rattle.std.proofs.Common.{◌==◌, not, rules}
use Rattle.std.proofs.lemmas.Fn.{filter_same}
use Rattle.reactor_summary.specs.declared.parts.WaitingEvent.{WaitingEvent}
use Rattle.reactor_state.proofs.waiting.drop_of.Goals as goal

pub returns-clause-items : goal.returns-clause-items
returns-clause-items c = filter_same _ (λ (w : WaitingEvent). not (c.args.handle.0 == w.handle.0)) _
    (λ x b q h. (search rules, search rules)) _ _ c.retain.ensures.filtered
