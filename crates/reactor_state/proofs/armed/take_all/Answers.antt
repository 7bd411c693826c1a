use Rattle.std.proofs.Common.{◌==◌, not, rules}
use Rattle.std.proofs.lemmas.Fn.{filter_same}
use Rattle.reactor_state.specs.declared.armed.Owner.{Owner}
use Rattle.reactor_state.proofs.armed.take_all.Goals as goal

pub returns-clause-items : goal.returns-clause-items
returns-clause-items c = filter_same _ (λ (o : Owner). not (o.handle.0 == c.args.handle.0)) _
    (λ x b q h. (search rules, search rules)) _ _ c.retain.ensures.filtered
