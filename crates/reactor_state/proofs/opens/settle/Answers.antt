use Rattle.std.proofs.Common.{◌==◌, not, rules}
use Rattle.std.proofs.lemmas.Fn.{filter_same}
use Rattle.reactor_summary.specs.declared.parts.OpenEvent.{OpenEvent}
use Rattle.reactor_state.proofs.opens.settle.Goals as goal

pub returns-clause-items : goal.returns-clause-items
returns-clause-items c = filter_same _ (λ (w : OpenEvent). not (c.args.event == w.event)) _
    (λ x b q h. (search rules, search rules)) _ _ c.retain.ensures.filtered
