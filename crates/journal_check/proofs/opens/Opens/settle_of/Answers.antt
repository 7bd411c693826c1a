use Rattle.std.proofs.Common.{◌≡◌, ◌==◌, not, Some, sym, ap, ◌∙◌, subst}
use Rattle.std.specs.List.{list_any}
use Rattle.reactor_summary.specs.Tells.{Each}
use Rattle.reactor_summary.specs.declared.parts.OpenEvent.{OpenEvent}
use Rattle.number_map.specs.Content.{found}
use Rattle.journal_check.proofs.Opened.{unheld_opens, held_number, none_held, none_still}
use Rattle.journal_check.proofs.opens.Opens.settle_of.Goals as goal

pub returns-in-Some-clause-none : goal.returns-in-Some-clause-none
returns-in-Some-clause-none c =
    let held : found c.self.inside.events c.args.handle.0 ≡ Some c.in-Some.event =
    sym c.get.ensures.value ∙ c.in-Some.is in
    ap (list_any (λ (o : OpenEvent). o.handle.0 == c.args.handle.0)) c.settle.ensures
    ∙ none_held c.args.handle.0 c.in-Some.event c.args.self.now
    (subst (Each (λ (o : OpenEvent). o.handle.0 ≡ c.args.handle.0 → o.event ≡ c.in-Some.event))
    c.self.view_is (held_number (found c.self.inside.starts) (found c.self.inside.events)
    c.self.inside.next c.args.handle.0 c.in-Some.event c.self.inside.started.entries held
    c.self.invariant.each))

pub returns-in-Some-clause-others : goal.returns-in-Some-clause-others
returns-in-Some-clause-others c i n =
    ap (list_any (λ (o : OpenEvent). i == o.event)) c.settle.ensures
    ∙ none_still (λ (o : OpenEvent). i == o.event)
    (λ (o : OpenEvent). not (c.in-Some.event == o.event)) c.args.self.now n

pub returns-in_default-clause-none : goal.returns-in_default-clause-none
returns-in_default-clause-none c =
    ap (list_any (λ (o : OpenEvent). o.handle.0 == c.args.handle.0)) (sym c.self.view_is)
    ∙ unheld_opens (found c.self.inside.starts) (found c.self.inside.events) c.self.inside.next
    c.args.handle.0 c.self.inside.started.entries (sym c.get.ensures.value ∙ c.in_default.is)
    c.self.invariant.each
