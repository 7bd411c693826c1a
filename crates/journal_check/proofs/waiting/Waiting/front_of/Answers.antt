use Rattle.std.proofs.Common.{◌==◌, List, sym, ap, ◌∙◌, subst}
use Rattle.std.specs.BTreeMap.{is_at}
use Rattle.std.specs.BTreeSet.{contains}
use Rattle.std.specs.List.{list_any}
use Rattle.std.specs.Map.{values_of, lookup}
use Rattle.std.specs.Ordering.{nat_cmp}
use Rattle.reactor_summary.specs.declared.parts.WaitingEvent.{WaitingEvent}
use Rattle.journal_check.specs.Index.{pair_cmp}
use Rattle.journal_check.specs.Queue.{IsFront}
use Rattle.journal_check.proofs.Queue.{none_of_five, least_of_five, front_found}
use Rattle.journal_check.proofs.waiting.Waiting.front_of.Goals as goal

pub returns-in_err-event : goal.returns-in_err-event
returns-in_err-event c =
    subst (IsFront c.args.handle.0 c.args.self.now) (sym c.from_residual-in_err-event.ensures)
    (ap (list_any (λ (w : WaitingEvent). c.args.handle.0 == w.handle.0)) (sym c.self.view_is)
    ∙ none_of_five c.in_ok-low.low c.args.handle.0 (contains pair_cmp c.self.inside.lanes)
    (values_of c.self.inside.events.entries) c.in_ok-low.ensures.lane.0 c.self.invariant.by_lane
    (c.first_between.ensures.none c.in_err-event.was))

pub returns : goal.returns
returns c =
    subst (IsFront c.args.handle.0 c.args.self.now) (sym (c.get.ensures.value))
    (subst (λ (xs : List WaitingEvent).
    IsFront c.args.handle.0 xs (lookup (is_at (nat_cmp c.in_ok-event.event))
    c.self.inside.events.entries)) c.self.view_is
    (front_found c.args.handle.0 c.in_ok-event.event c.self.inside.events.entries
    (contains pair_cmp c.self.inside.lanes) (contains pair_cmp c.self.inside.timers)
    c.self.invariant
    (least_of_five c.in_ok-low.low c.args.handle.0 c.in_ok-event.event
    (contains pair_cmp c.self.inside.lanes) c.in_ok-low.ensures.lane.0
    c.in_ok-event.ensures.found)))
