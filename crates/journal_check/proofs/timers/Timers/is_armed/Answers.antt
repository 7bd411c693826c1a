use Rattle.std.proofs.Common.{◌≡◌, ◌==◌, Some, sym, ap, ◌∙◌}
use Rattle.std.specs.BTreeMap.{is_at}
use Rattle.std.specs.BTreeSet.{contains}
use Rattle.std.specs.List.{list_any}
use Rattle.reactor_summary.specs.declared.parts.ArmedTimer.{ArmedTimer}
use Rattle.number_map.specs.Content.{found}
use Rattle.journal_check.specs.Index.{pair_cmp}
use Rattle.journal_check.proofs.Keyed.{any_looked_up}
use Rattle.journal_check.proofs.Timed.{led_agrees, unled_none}
use Rattle.journal_check.proofs.timers.Timers.is_armed.Goals as goal

pub returns-in-None : goal.returns-in-None
returns-in-None c =
    sym (ap (list_any (λ (b : ArmedTimer). b.timer == c.args.timer)) (sym c.self.view_is)
    ∙ unled_none (found c.self.inside.numbered) (contains pair_cmp c.self.inside.owned) c.args.timer
    c.self.inside.order.entries (sym c.get.ensures.value ∙ c.in-None.is) c.self.invariant)

pub returns-in-Some : goal.returns-in-Some
returns-in-Some c =
    let led : found c.self.inside.numbered c.args.timer ≡ Some c.in-Some.a =
    sym c.get.ensures.value ∙ c.in-Some.is in
    c.contains_key.ensures
    ∙ (sym (any_looked_up (is_at (pair_cmp (c.in-Some.a.deadline, c.args.timer)))
    (λ (b : ArmedTimer). b.timer == c.args.timer) c.self.inside.order.entries
    (led_agrees (found c.self.inside.numbered) (contains pair_cmp c.self.inside.owned) c.args.timer
    c.in-Some.a c.self.inside.order.entries led c.self.invariant))
    ∙ ap (list_any (λ (b : ArmedTimer). b.timer == c.args.timer)) c.self.view_is)
