use Rattle.std.proofs.Common.{◌≡◌, ◌==◌, Some, sym, ap, ◌∙◌}
use Rattle.std.specs.List.{list_any, find}
use Rattle.reactor_summary.specs.declared.parts.OpenEvent.{OpenEvent}
use Rattle.number_map.specs.Content.{found}
use Rattle.journal_check.proofs.Opened.{unheld_opens, idle_unfound, busy_found}
use Rattle.journal_check.proofs.opens.Opens.is_busy.Goals as goal

pub returns-in-None : goal.returns-in-None
returns-in-None c =
    sym (ap (list_any (λ (o : OpenEvent). o.handle.0 == c.args.handle.0)) (sym c.self.view_is)
    ∙ unheld_opens (found c.self.inside.starts) (found c.self.inside.events) c.self.inside.next
    c.args.handle.0 c.self.inside.started.entries (sym c.get.ensures.value ∙ c.in-None.is)
    c.self.invariant.each)

pub returns-in-None-find : goal.returns-in-None-find
returns-in-None-find c =
    let held : found c.self.inside.events c.args.handle.0 ≡ Some c.in-Some.event =
    sym c.get.ensures.value ∙ c.in-Some.is in
    sym (ap (list_any (λ (o : OpenEvent). o.handle.0 == c.args.handle.0)) (sym c.self.view_is)
    ∙ idle_unfound (found c.self.inside.starts) (found c.self.inside.events) c.self.inside.next
    c.args.handle.0 c.in-Some.event c.self.inside.started.entries held c.self.invariant.each
    (ap (find (λ (o : OpenEvent). o.event == c.in-Some.event)) c.self.view_is
    ∙ (sym c.find.ensures ∙ c.in-None-find.is)))

pub returns-in-Some-find : goal.returns-in-Some-find
returns-in-Some-find c =
    let held : found c.self.inside.events c.args.handle.0 ≡ Some c.in-Some.event =
    sym c.get.ensures.value ∙ c.in-Some.is in
    busy_found (found c.self.inside.starts) (found c.self.inside.events) c.self.inside.next
    c.args.handle.0 c.in-Some.event c.self.inside.started.entries held c.self.invariant
    c.in-Some-find.o
    (ap (find (λ (o : OpenEvent). o.event == c.in-Some.event)) c.self.view_is
    ∙ (sym c.find.ensures ∙ c.in-Some-find.is))
    ∙ ap (list_any (λ (o : OpenEvent). o.handle.0 == c.args.handle.0)) c.self.view_is
