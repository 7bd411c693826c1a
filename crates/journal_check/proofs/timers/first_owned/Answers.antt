use Rattle.std.proofs.Common.{◌≡◌, true}
use Rattle.std.proofs.lemmas.Bool.{false_from_ne_true}
use Rattle.std.specs.BTreeSet.{contains}
use Rattle.journal_check.specs.Index.{pair_cmp}
use Rattle.journal_check.proofs.Timed.{pair_from, pair_between}
use Rattle.journal_check.proofs.timers.first_owned.Goals as goal

pub returns-in_default-clause-none : goal.returns-in_default-clause-none
returns-in_default-clause-none c q t =
    let first = rw c.in-Some.ensures.steps at (c.range.ensures.in_range tt).1 in
    let least = rw c.in-Some.ensures.steps at (c.range.ensures.in_range tt).2 in
    false_from_ne_true _ (λ (h : contains pair_cmp c.args.owned.now (c.args.handle.0, t) ≡ true).
    c.if-other-handle.false (pair_between c.args.handle.0 c.in-Some.field-0.now t first.0.0
    (least (c.args.handle.0, t) (pair_from c.args.handle.0 t, tt) h)))

pub returns-in_default-2-clause-none : goal.returns-in_default-2-clause-none
returns-in_default-2-clause-none c q t =
    let steps = rw c.in_default.is at c.next.ensures.steps in
    (c.range.ensures.in_range tt).5 steps.0 (c.args.handle.0, t) (pair_from c.args.handle.0 t, tt)
