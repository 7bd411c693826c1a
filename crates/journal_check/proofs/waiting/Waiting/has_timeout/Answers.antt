use Rattle.std.proofs.Common.{◌∙◌}
use Rattle.reactor_journal.specs.Past as P
use Rattle.reactor_summary.specs.declared.parts.WaitingEvent.{WaitingEvent}
use Rattle.journal_check.proofs.Queue.{one_is_any}
use Rattle.journal_check.proofs.waiting.Waiting.has_timeout.Goals as goal

pub returns : goal.returns
returns c = c.is_some.ensures ∙ one_is_any
    (λ (w : WaitingEvent). P.is_timeout_of c.args.timer w.upcall) c.args.self.now
    c.first_timeout.result c.first_timeout.ensures.found c.first_timeout.ensures.none
