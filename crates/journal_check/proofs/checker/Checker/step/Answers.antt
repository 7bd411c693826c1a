use Rattle.std.proofs.Common.{sym, subst}
use Rattle.std.specs.BTreeSet.{contains}
use Rattle.std.specs.Ordering.{nat_cmp}
use Rattle.reactor_summary.specs.Summary as S
use Rattle.journal_check.specs.Fronts.{IsUpToDate}
use Rattle.journal_check.specs.Index.{pair_cmp}
use Rattle.journal_check.proofs.Keyed.{on_ok}
use Rattle.journal_check.proofs.Upkeep.{kept_none}
use Rattle.journal_check.proofs.checker.Checker.step.Goals as goal

pub returns-in-None-clause-index : goal.returns-in-None-clause-index
returns-in-None-clause-index g c u sound next later =
    on_ok c.step.result (c.step.ensures sound next)
    (λ new. subst (λ (s : S.Summary). IsUpToDate s (contains pair_cmp c.args.self.now.fronts)
    (contains nat_cmp c.args.self.now.closing)) (sym new)
    (kept_none c.args.entry.now c.args.self.now.machine (contains pair_cmp c.args.self.now.fronts)
    (contains nat_cmp c.args.self.now.closing) sound (c.in-None.ensures sound) u))
