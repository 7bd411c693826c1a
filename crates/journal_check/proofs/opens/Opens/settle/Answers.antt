use Rattle.std.proofs.Common.{◌≡◌, ◌==◌, not, Some, sym, ap, ◌∙◌, subst}
use Rattle.std.specs.BTreeMap.{is_at}
use Rattle.std.specs.List.{list_any, filter}
use Rattle.std.specs.Map.{values_of, lookup}
use Rattle.std.specs.Ordering.{nat_cmp}
use Rattle.reactor_summary.specs.Tells.{Each}
use Rattle.reactor_summary.specs.declared.parts.OpenEvent.{OpenEvent}
use Rattle.number_map.specs.Content.{found}
use Rattle.journal_check.specs.Opened.{IsStartedAt}
use Rattle.journal_check.proofs.Keyed.{values_removed, each_removed, filter_all}
use Rattle.journal_check.proofs.Opened.{led_opens, turned, unled_opens}
use Rattle.journal_check.proofs.opens.Opens.settle.Goals as goal

pub invariant_of-self : goal.invariant_of-self
invariant_of-self c =
    record {
      ordered = c.remove.ensures.ordered;
      each = subst (Each (IsStartedAt (found c.self.inside.starts) (found c.self.inside.events)
          c.self.inside.next)) (sym c.remove.ensures.entries)
          (each_removed (IsStartedAt (found c.self.inside.starts) (found c.self.inside.events)
          c.self.inside.next) (is_at (nat_cmp c.in-Some.start)) c.self.inside.started.entries
          c.self.invariant.each);
      past = c.self.invariant.past;
    }

pub returns-in-Some : goal.returns-in-Some
returns-in-Some c =
    let led : found c.self.inside.starts c.args.event ≡ Some c.in-Some.start =
    sym c.get.ensures.value ∙ c.in-Some.is in
    ap values_of c.remove.ensures.entries
    ∙ (values_removed (is_at (nat_cmp c.in-Some.start)) (λ (o : OpenEvent). c.args.event == o.event)
    c.self.inside.started.entries
    (turned c.args.event (is_at (nat_cmp c.in-Some.start)) c.self.inside.started.entries
    (led_opens (found c.self.inside.starts) (found c.self.inside.events) c.self.inside.next
    c.args.event c.in-Some.start c.self.inside.started.entries led c.self.invariant.each))
    (ap (lookup (is_at (nat_cmp c.in-Some.start))) (sym c.remove.ensures.entries)
    ∙ c.remove.ensures.updates.1)
    ∙ ap (filter (λ (o : OpenEvent). not (c.args.event == o.event))) c.self.view_is)

pub returns-in_default : goal.returns-in_default
returns-in_default c =
    sym (filter_all (λ (o : OpenEvent). c.args.event == o.event) c.args.self.now
    (ap (list_any (λ (o : OpenEvent). c.args.event == o.event)) (sym c.self.view_is)
    ∙ unled_opens (found c.self.inside.starts) (found c.self.inside.events) c.self.inside.next
    c.args.event c.self.inside.started.entries (sym c.get.ensures.value ∙ c.in_default.is)
    c.self.invariant.each))
