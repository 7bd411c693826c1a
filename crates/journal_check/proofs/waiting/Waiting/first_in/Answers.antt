use Rattle.std.proofs.Common.{◌+◌, sym, ap, ◌∙◌, subst}
use Rattle.std.specs.BTreeSet.{contains}
use Rattle.std.specs.List.{list_any}
use Rattle.std.specs.Map.{values_of}
use Rattle.reactor_summary.specs.declared.parts.WaitingEvent.{WaitingEvent}
use Rattle.journal_check.specs.Index.{pair_cmp}
use Rattle.journal_check.specs.Queue.{lane_of, lane_key, IsOne, is_within}
use Rattle.journal_check.proofs.Keyed.{if_some}
use Rattle.journal_check.proofs.Queue.{one_found, none_found, lane_passes, lane_named}
use Rattle.journal_check.proofs.waiting.Waiting.first_in.Goals as goal

pub returns-clause-found : goal.returns-clause-found
returns-clause-found c =
    if_some c.first_between.result c.first_between.ensures.found
    (λ i least. subst (IsOne (λ (w : WaitingEvent).
    is_within c.args.low (c.args.last + 1) (lane_of w)) i) c.self.view_is
    (one_found lane_key (contains pair_cmp c.self.inside.lanes)
    (λ (w : WaitingEvent). is_within c.args.low (c.args.last + 1) (lane_of w)) c.args.low
    (c.args.last + 1) i c.self.inside.events.entries c.self.invariant.ordered
    c.self.invariant.own c.self.invariant.by_lane (lane_passes c.args.low (c.args.last + 1))
    least))

pub returns-clause-none : goal.returns-clause-none
returns-clause-none c q =
    ap (list_any (λ (w : WaitingEvent). is_within c.args.low (c.args.last + 1) (lane_of w)))
    (sym c.self.view_is)
    ∙ none_found lane_key (contains pair_cmp c.self.inside.lanes)
    (λ (w : WaitingEvent). is_within c.args.low (c.args.last + 1) (lane_of w)) c.args.low
    (c.args.last + 1) (values_of c.self.inside.events.entries) c.self.invariant.by_lane
    (lane_named c.args.low (c.args.last + 1)) (c.first_between.ensures.none q)
