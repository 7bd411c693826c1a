use Rattle.std.proofs.Common.{◌≡◌, ◌==◌, not, Some, sym, ap, ◌∙◌, subst}
use Rattle.std.specs.BTreeMap.{is_at}
use Rattle.std.specs.BTreeSet.{contains}
use Rattle.std.specs.List.{filter}
use Rattle.std.specs.Map.{values_of, lookup}
use Rattle.std.specs.Ordering.{nat_cmp}
use Rattle.reactor_summary.specs.Tells.{Each}
use Rattle.reactor_summary.specs.declared.parts.WaitingEvent.{WaitingEvent}
use Rattle.journal_check.specs.Index.{pair_cmp}
use Rattle.journal_check.specs.Queue.{lane_key, timer_key, Finds}
use Rattle.journal_check.proofs.Keyed.{values_removed, each_removed}
use Rattle.journal_check.proofs.Queue.{IsOwn, IsNarrowAt, narrow_found, own_agrees, finds_less}
use Rattle.journal_check.proofs.waiting.Waiting.take.Goals as goal

pub invariant_of-self : goal.invariant_of-self
invariant_of-self c =
    let values : values_of c.remove.new.self.entries
    ≡ filter (λ v. not (c.args.event == v.event)) (values_of c.self.inside.events.entries) =
    ap values_of c.remove.ensures.entries
    ∙ values_removed (is_at (nat_cmp c.args.event)) (λ (v : WaitingEvent). c.args.event == v.event)
    c.self.inside.events.entries (own_agrees c.args.event c.self.inside.events.entries
    c.self.invariant.own)
    (ap (lookup (is_at (nat_cmp c.args.event))) (sym c.remove.ensures.entries)
    ∙ c.remove.ensures.updates.1)
    in
    let is : lookup (is_at (nat_cmp c.args.event)) c.self.inside.events.entries ≡ Some c.in-Some.w =
    sym c.remove.ensures.value ∙ c.in-Some.is in
    record {
      ordered = c.remove.ensures.ordered;
      own = subst (Each IsOwn) (sym c.remove.ensures.entries)
          (each_removed IsOwn (is_at (nat_cmp c.args.event)) c.self.inside.events.entries
          c.self.invariant.own);
      by_lane = subst (Finds lane_key (contains pair_cmp c.delist.new.lanes)) (sym values)
          (finds_less lane_key (contains pair_cmp c.self.inside.lanes)
          (contains pair_cmp c.delist.new.lanes) c.args.event c.in-Some.w
          c.self.inside.events.entries c.self.invariant.ordered c.self.invariant.own is
          c.self.invariant.by_lane c.delist.ensures.0);
      by_timer = subst (Finds timer_key (contains pair_cmp c.delist.new.timers)) (sym values)
          (finds_less timer_key (contains pair_cmp c.self.inside.timers)
          (contains pair_cmp c.delist.new.timers) c.args.event c.in-Some.w
          c.self.inside.events.entries c.self.invariant.ordered c.self.invariant.own is
          c.self.invariant.by_timer c.delist.ensures.1);
      narrow = subst (Each IsNarrowAt) (sym c.remove.ensures.entries)
          (each_removed IsNarrowAt (is_at (nat_cmp c.args.event)) c.self.inside.events.entries
          c.self.invariant.narrow);
    }

pub delist-requires : goal.delist-requires
delist-requires c = narrow_found c.args.event c.self.inside.events.entries c.in-Some.w
    c.self.invariant.narrow (sym c.remove.ensures.value ∙ c.in-Some.is)

pub returns-in-Some : goal.returns-in-Some
returns-in-Some c =
    ap values_of c.remove.ensures.entries
    ∙ (values_removed (is_at (nat_cmp c.args.event)) (λ (v : WaitingEvent). c.args.event == v.event)
    c.self.inside.events.entries (own_agrees c.args.event c.self.inside.events.entries
    c.self.invariant.own)
    (ap (lookup (is_at (nat_cmp c.args.event))) (sym c.remove.ensures.entries)
    ∙ c.remove.ensures.updates.1)
    ∙ ap (filter (λ (v : WaitingEvent). not (c.args.event == v.event))) c.self.view_is)

pub returns-in_default : goal.returns-in_default
returns-in_default c =
    ap values_of c.remove.ensures.entries
    ∙ (values_removed (is_at (nat_cmp c.args.event)) (λ (v : WaitingEvent). c.args.event == v.event)
    c.self.inside.events.entries (own_agrees c.args.event c.self.inside.events.entries
    c.self.invariant.own)
    (ap (lookup (is_at (nat_cmp c.args.event))) (sym c.remove.ensures.entries)
    ∙ c.remove.ensures.updates.1)
    ∙ ap (filter (λ (v : WaitingEvent). not (c.args.event == v.event))) c.self.view_is)
