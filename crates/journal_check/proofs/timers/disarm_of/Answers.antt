use Rattle.std.proofs.Common.{ℕ, ◌≡◌, ◌==◌, List, Some, sym, ap, ◌∙◌, subst}
use Rattle.std.specs.BTreeMap.{is_at}
use Rattle.std.specs.Map.{values_of, lookup}
use Rattle.reactor_summary.specs.declared.parts.ArmedTimer.{ArmedTimer}
use Rattle.number_map.specs.Content.{found}
use Rattle.journal_check.specs.Index.{pair_cmp, IsIndexed, IsArmedAt}
use Rattle.journal_check.proofs.Keyed.{values_removed, each_removed, filter_all}
use Rattle.journal_check.proofs.Timed.{of_both, led_agrees, unled_none, both_same, both_none}
use Rattle.journal_check.proofs.Timed.{none_of_both}
use Rattle.journal_check.proofs.timers.disarm_of.Goals as goal

pub returns-then-a-handle-clause-gone : goal.returns-then-a-handle-clause-gone
returns-then-a-handle-clause-gone c =
    let led : found c.args.numbered.now c.args.timer ≡ Some c.in-Some.a =
    sym c.get.ensures.value ∙ c.in-Some.is in
    ap values_of c.remove.ensures.entries
    ∙ (values_removed (is_at (pair_cmp (c.in-Some.a.deadline, c.args.timer)))
    (λ (b : ArmedTimer). b.timer == c.args.timer) c.args.order.now.entries
    (led_agrees (found c.args.numbered.now) c.requires.0 c.args.timer c.in-Some.a
    c.args.order.now.entries led c.requires.1)
    (ap (lookup (is_at (pair_cmp (c.in-Some.a.deadline, c.args.timer))))
    (sym c.remove.ensures.entries) ∙ c.remove.ensures.updates.1)
    ∙ both_same (found c.args.numbered.now) c.requires.0 c.args.handle.0 c.args.timer c.in-Some.a
    c.args.order.now.entries led c.if-a-handle.true c.requires.1)

pub returns-then-a-handle-clause-left : goal.returns-then-a-handle-clause-left
returns-then-a-handle-clause-left c owns h =
    subst (λ (es : List ((ℕ × ℕ) × ArmedTimer)). IsIndexed es (found c.args.numbered.now) owns)
    (sym c.remove.ensures.entries)
    (each_removed (IsArmedAt (found c.args.numbered.now) owns)
    (is_at (pair_cmp (c.in-Some.a.deadline, c.args.timer))) c.args.order.now.entries h)

pub returns-else-a-handle-clause-gone : goal.returns-else-a-handle-clause-gone
returns-else-a-handle-clause-gone c =
    let led : found c.args.numbered.now c.args.timer ≡ Some c.in-Some.a =
    sym c.get.ensures.value ∙ c.in-Some.is in
    sym (filter_all (of_both c.args.handle.0 c.args.timer) (values_of c.args.order.now.entries)
    (both_none (found c.args.numbered.now) c.requires.0 c.args.handle.0 c.args.timer c.in-Some.a
    c.args.order.now.entries led c.if-a-handle.false c.requires.1))

pub returns-in_default-clause-gone : goal.returns-in_default-clause-gone
returns-in_default-clause-gone c =
    sym (filter_all (of_both c.args.handle.0 c.args.timer) (values_of c.args.order.now.entries)
    (none_of_both c.args.handle.0 c.args.timer (values_of c.args.order.now.entries)
    (unled_none (found c.args.numbered.now) c.requires.0 c.args.timer c.args.order.now.entries
    (sym c.get.ensures.value ∙ c.in_default.is) c.requires.1)))
