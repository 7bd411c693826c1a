use Rattle.std.proofs.Common.{not, rules}
use Rattle.std.proofs.lemmas.Fn.{filter_same}
use Rattle.reactor_summary.specs.reactor_journal.specs.Past as P
use Rattle.reactor_summary.specs.declared.parts.WaitingEvent.{WaitingEvent}
use Rattle.reactor_state.proofs.waiting.drop_timeouts.Goals as goal

pub returns-clause-items : goal.returns-clause-items
returns-clause-items c = filter_same _
    (λ (w : WaitingEvent). not (P.is_timeout_of c.args.timer w.upcall)) _
    (λ x b q h. (search rules, search rules)) _ _ c.retain.ensures.filtered
