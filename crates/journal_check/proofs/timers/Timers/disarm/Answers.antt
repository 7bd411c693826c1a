use Rattle.std.proofs.Common.{ℕ, ◌≡◌, ◌==◌, false, List, Some, sym, ap, ◌∙◌, subst}
use Rattle.std.specs.BTreeMap.{is_at}
use Rattle.std.specs.BTreeSet.{contains}
use Rattle.std.specs.List.{list_any}
use Rattle.std.specs.Map.{values_of, lookup}
use Rattle.reactor_summary.specs.Summary as S
use Rattle.reactor_summary.specs.declared.parts.ArmedTimer.{ArmedTimer}
use Rattle.number_map.specs.Content.{found}
use Rattle.journal_check.specs.Index.{pair_cmp, IsIndexed, IsArmedAt}
use Rattle.journal_check.proofs.Keyed.{values_removed, each_removed, filter_all}
use Rattle.journal_check.proofs.Timed.{led_agrees, unled_none}
use Rattle.journal_check.proofs.timers.Timers.disarm.Goals as goal

pub invariant_of-self : goal.invariant_of-self
invariant_of-self c =
    subst (λ (es : List ((ℕ × ℕ) × ArmedTimer)).
    IsIndexed es (found c.self.inside.numbered) (contains pair_cmp c.self.inside.owned))
    (sym c.remove.ensures.entries)
    (each_removed (IsArmedAt (found c.self.inside.numbered) (contains pair_cmp c.self.inside.owned))
    (is_at (pair_cmp (c.in-Some.a.deadline, c.args.timer))) c.self.inside.order.entries
    c.self.invariant)

pub returns-in-Some : goal.returns-in-Some
returns-in-Some c =
    let led : found c.self.inside.numbered c.args.timer ≡ Some c.in-Some.a =
    sym c.get.ensures.value ∙ c.in-Some.is in
    ap values_of c.remove.ensures.entries
    ∙ (values_removed (is_at (pair_cmp (c.in-Some.a.deadline, c.args.timer)))
    (λ (b : ArmedTimer). b.timer == c.args.timer) c.self.inside.order.entries
    (led_agrees (found c.self.inside.numbered) (contains pair_cmp c.self.inside.owned) c.args.timer
    c.in-Some.a c.self.inside.order.entries led c.self.invariant)
    (ap (lookup (is_at (pair_cmp (c.in-Some.a.deadline, c.args.timer))))
    (sym c.remove.ensures.entries) ∙ c.remove.ensures.updates.1)
    ∙ ap (S.without_timer c.args.timer) c.self.view_is)

pub returns-in_default : goal.returns-in_default
returns-in_default c =
    let none : list_any (λ (b : ArmedTimer). b.timer == c.args.timer)
    (values_of c.self.inside.order.entries) ≡ false =
    unled_none (found c.self.inside.numbered) (contains pair_cmp c.self.inside.owned) c.args.timer
    c.self.inside.order.entries (sym c.get.ensures.value ∙ c.in_default.is) c.self.invariant
    in
    sym (filter_all (λ (b : ArmedTimer). b.timer == c.args.timer) c.args.self.now
    (ap (list_any (λ (b : ArmedTimer). b.timer == c.args.timer)) (sym c.self.view_is) ∙ none))
