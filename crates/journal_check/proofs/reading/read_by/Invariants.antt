use Rattle.std.proofs.Common.{take}
use Rattle.std.specs.BTreeSet.{contains}
use Rattle.std.specs.Ordering.{nat_cmp}
use Rattle.reactor_journal.specs.Past.{past_of}
use Rattle.journal_check.specs.Index.{pair_cmp}
use Rattle.journal_check.proofs.Checking.{Read}
use Rattle.journal_check.proofs.reading.read_by.Given as goal

abbrev pub invariant-loop-k : goal.invariant-loop-k
invariant-loop-k g l = Read l.most (past_of (take l.k l.journal)) l.checker.machine
    (contains pair_cmp l.checker.fronts) (contains nat_cmp l.checker.closing) l.due l.ready
