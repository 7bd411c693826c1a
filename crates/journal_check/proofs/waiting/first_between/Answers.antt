use Rattle.std.proofs.Common.{◌≡◌, ◌<◌, ◌≤◌, true, arith}
use Rattle.std.proofs.lemmas.Bool.{false_from_ne_true}
use Rattle.std.specs.BTreeSet.{contains}
use Rattle.journal_check.specs.Index.{pair_cmp}
use Rattle.journal_check.proofs.Lanes.{pair_reaches, pair_starts, pair_ends}
use Rattle.journal_check.proofs.waiting.first_between.Goals as goal

pub returns-in-Some-clause-found : goal.returns-in-Some-clause-found
returns-in-Some-clause-found c =
    let first = rw c.in-Some.ensures.steps at (c.range.ensures.in_range tt).1 in
    let least = rw c.in-Some.ensures.steps at (c.range.ensures.in_range tt).2 in
    record {
      at = c.in-Some.field-0.now.0;
      from = pair_starts c.args.low c.in-Some.field-0.now first.0.0;
      below = omega arith;
      is = first.1;
      least = λ n j le h. least (n, j) (pair_reaches c.args.low n j le, tt) h;
    }

pub returns-in_default-clause-none : goal.returns-in_default-clause-none
returns-in_default-clause-none c q n i le lt =
    let least = rw c.in-Some.ensures.steps at (c.range.ensures.in_range tt).2 in
    false_from_ne_true _ (λ (h : contains pair_cmp c.args.keys.now (n, i) ≡ true).
    let end : c.in-Some.field-0.now.0 ≤ n =
    pair_ends c.in-Some.field-0.now n i (least (n, i) (pair_reaches c.args.low n i le, tt) h) in
    let past : c.args.last < c.in-Some.field-0.now.0 = c.if-at-last.false in
    absurd (omega arith))

pub returns-in_default-2-clause-none : goal.returns-in_default-2-clause-none
returns-in_default-2-clause-none c q n i le lt =
    let steps = rw c.in_default.is at c.next.ensures.steps in
    (c.range.ensures.in_range tt).5 steps.0 (n, i) (pair_reaches c.args.low n i le, tt)
