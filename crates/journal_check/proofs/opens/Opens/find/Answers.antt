use Rattle.std.proofs.Common.{◌≡◌, ◌==◌, false, Some, sym, ap, ◌∙◌}
use Rattle.std.specs.BTreeMap.{is_at}
use Rattle.std.specs.List.{list_any, find}
use Rattle.std.specs.Map.{values_of}
use Rattle.std.specs.Ordering.{nat_cmp}
use Rattle.reactor_summary.specs.declared.parts.OpenEvent.{OpenEvent}
use Rattle.number_map.specs.Content.{found}
use Rattle.journal_check.proofs.Keyed.{find_looked_up}
use Rattle.journal_check.proofs.Opened.{led_opens, unled_opens, unled_find}
use Rattle.journal_check.proofs.opens.Opens.find.Goals as goal

pub returns-in-None : goal.returns-in-None
returns-in-None c =
    let none : list_any (λ (o : OpenEvent). c.args.event == o.event)
    (values_of c.self.inside.started.entries) ≡ false =
    unled_opens (found c.self.inside.starts) (found c.self.inside.events) c.self.inside.next
    c.args.event c.self.inside.started.entries (sym c.get.ensures.value ∙ c.in-None.is)
    c.self.invariant.each
    in
    sym (ap (find (λ (o : OpenEvent). o.event == c.args.event)) (sym c.self.view_is)
    ∙ unled_find c.args.event (values_of c.self.inside.started.entries) none)

pub returns-in-Some : goal.returns-in-Some
returns-in-Some c =
    let led : found c.self.inside.starts c.args.event ≡ Some c.in-Some.start =
    sym c.get.ensures.value ∙ c.in-Some.is in
    c.get-in-Some.ensures.value
    ∙ (sym (find_looked_up (is_at (nat_cmp c.in-Some.start))
    (λ (o : OpenEvent). o.event == c.args.event) c.self.inside.started.entries
    (led_opens (found c.self.inside.starts) (found c.self.inside.events) c.self.inside.next
    c.args.event c.in-Some.start c.self.inside.started.entries led c.self.invariant.each))
    ∙ ap (find (λ (o : OpenEvent). o.event == c.args.event)) c.self.view_is)
