use Rattle.std.proofs.Common.{ℕ, Option, subst}
use Rattle.std.specs.BTreeSet.{contains}
use Rattle.journal_check.specs.Index.{pair_cmp}
use Rattle.journal_check.specs.Fronts.{Replaces}
use Rattle.journal_check.proofs.Keyed.{on_ok}
use Rattle.journal_check.proofs.Upkeep.{replaces_itself}
use Rattle.journal_check.proofs.checker.replace_key.Goals as goal

pub returns-then-is_same : goal.returns-then-is_same
returns-then-is_same c there =
    subst (λ (o : Option (ℕ × ℕ)). Replaces c.args.before o (contains pair_cmp c.args.keys.now)
    (contains pair_cmp c.args.keys.now)) (c.is_same.ensures c.if-is_same.true)
    (replaces_itself c.args.before (contains pair_cmp c.args.keys.now) there)

pub returns : goal.returns
returns c there = on_ok c.add_key.result c.add_key.ensures
    (λ adds. record {
      less = contains pair_cmp c.drop_key.new.keys;
      drops = c.drop_key.ensures;
      adds = adds;
    })
