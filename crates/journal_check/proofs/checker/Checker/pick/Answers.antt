use Rattle.std.proofs.lemmas.Bool.{false≢true}
use Rattle.std.specs.BTreeMap.{is_at}
use Rattle.std.specs.BTreeSet.{contains}
use Rattle.std.specs.Ordering.{nat_cmp}
use Rattle.journal_check.specs.Index.{pair_cmp}
use Rattle.journal_check.proofs.Keyed.{empty_none}
use Rattle.journal_check.proofs.Upkeep.{picked_by, none_picked}
use Rattle.journal_check.proofs.checker.Checker.pick.Goals as goal

pub returns-in-Some : goal.returns-in-Some
returns-in-Some c u sound =
    picked_by c.args.self.now.machine sound (contains pair_cmp c.args.self.now.fronts)
    (contains nat_cmp c.args.self.now.closing) u c.in-Some.key.now c.in-Some.ensures.member
    c.in-Some.ensures.least

pub returns-in-None : goal.returns-in-None
returns-in-None c u sound =
    none_picked c.args.self.now.machine sound (contains pair_cmp c.args.self.now.fronts)
    (contains nat_cmp c.args.self.now.closing) u
    (λ q. empty_none (is_at (pair_cmp q)) c.args.self.now.fronts.keys
    (λ lt. false≢true (c.in-None.ensures.variant.1 lt)))
