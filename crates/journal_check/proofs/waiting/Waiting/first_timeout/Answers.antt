use Rattle.std.proofs.Common.{◌+◌, sym, ap, ◌∙◌, subst}
use Rattle.std.specs.BTreeSet.{contains}
use Rattle.std.specs.List.{list_any}
use Rattle.std.specs.Map.{values_of}
use Rattle.reactor_journal.specs.Past as P
use Rattle.reactor_summary.specs.declared.parts.WaitingEvent.{WaitingEvent}
use Rattle.journal_check.specs.Index.{pair_cmp}
use Rattle.journal_check.specs.Queue.{timer_key, IsOne}
use Rattle.journal_check.proofs.Keyed.{if_some}
use Rattle.journal_check.proofs.Queue.{one_found, none_found, timer_passes, timer_named}
use Rattle.journal_check.proofs.waiting.Waiting.first_timeout.Goals as goal

pub returns-clause-found : goal.returns-clause-found
returns-clause-found c =
    if_some c.first_between.result c.first_between.ensures.found
    (λ i least. subst (IsOne (λ (w : WaitingEvent). P.is_timeout_of c.args.timer w.upcall) i)
    c.self.view_is
    (one_found timer_key (contains pair_cmp c.self.inside.timers)
    (λ (w : WaitingEvent). P.is_timeout_of c.args.timer w.upcall) c.args.timer
    (c.args.timer + 1) i c.self.inside.events.entries c.self.invariant.ordered
    c.self.invariant.own c.self.invariant.by_timer (timer_passes c.args.timer) least))

pub returns-clause-none : goal.returns-clause-none
returns-clause-none c q =
    ap (list_any (λ (w : WaitingEvent). P.is_timeout_of c.args.timer w.upcall)) (sym c.self.view_is)
    ∙ none_found timer_key (contains pair_cmp c.self.inside.timers)
    (λ (w : WaitingEvent). P.is_timeout_of c.args.timer w.upcall) c.args.timer
    (c.args.timer + 1) (values_of c.self.inside.events.entries) c.self.invariant.by_timer
    (timer_named c.args.timer) (c.first_between.ensures.none q)
