use Rattle.std.proofs.Common.{◌<◌, not, length, List, sym, ap, ◌∙◌, subst}
use Rattle.std.specs.List.{filter}
use Rattle.reactor_journal.specs.Past as P
use Rattle.reactor_summary.specs.declared.parts.WaitingEvent.{WaitingEvent}
use Rattle.journal_check.proofs.Keyed.{filter_all}
use Rattle.journal_check.proofs.Queue.{one_out, shorter}
use Rattle.journal_check.proofs.waiting.Waiting.cancel.Goals as goal

pub loop-event-smaller : goal.loop-event-smaller
loop-event-smaller c = subst (λ (xs : List WaitingEvent). length xs < length c.loop-event.self)
    (sym c.take.ensures) (shorter c.in-Some.event c.loop-event.self c.in-Some.ensures.found.waits)

pub loop-event-preserved : goal.loop-event-preserved
loop-event-preserved c =
    ap (filter (λ (w : WaitingEvent). not (P.is_timeout_of c.args.timer w.upcall))) c.take.ensures
    ∙ (one_out (λ (w : WaitingEvent). P.is_timeout_of c.args.timer w.upcall) c.in-Some.event
    c.loop-event.self c.in-Some.ensures.found.passes ∙ c.loop-event.invariant)

pub returns : goal.returns
returns c = sym (filter_all (λ (w : WaitingEvent). P.is_timeout_of c.args.timer w.upcall)
    c.loop-event.self (c.first_timeout.ensures.none c.in_default.is)) ∙ c.loop-event.invariant
