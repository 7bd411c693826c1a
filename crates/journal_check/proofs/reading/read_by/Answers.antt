use Rattle.std.proofs.Common.{◌≡◌, ◌+◌, ◌^◌, ◌<◌, ℕ, true, false, take, length, Err, sym, ap, ◌∙◌}
use Rattle.std.proofs.Common.{subst, arith}
use Rattle.std.specs.BTreeSet.{contains}
use Rattle.std.specs.Ordering.{nat_cmp}
use Rattle.std.specs.declared.result.Result.{Result}
use Rattle.reactor_journal.specs.Past.{past_of}
use Rattle.reactor_journal.specs.Follow as F
use Rattle.journal_check.specs.Index.{pair_cmp}
use Rattle.journal_check.specs.declared.reading.CheckRefused.{CheckRefused}
use Rattle.journal_check.specs.declared.reading.CheckRefused.TheVariants.{Illegal}
use Rattle.journal_check.specs.Refusal.{RefusesAt}
use Rattle.journal_check.specs.Next.{IsNext}
use Rattle.journal_check.proofs.Checking.{length-past, says_follow, says_first, says_next}
use Rattle.journal_check.proofs.Checking.{small_base, read_sound, next_sound, read_none, read_more}
use Rattle.journal_check.proofs.Checking.{refused_at}
use Rattle.journal_check.proofs.reading.read_by.Goals as goal

same_place : (k at : ℕ) → ◌≡◌ {A = Result (Unit {0}) CheckRefused} (Err (Illegal k))
    (Err (Illegal at)) → k ≡ at
same_place k at q = cc

pub loop-k-init : goal.loop-k-init
loop-k-init g c = read_none c.args.most c.args.checker.now.machine
    (contains pair_cmp c.args.checker.now.fronts) (contains nat_cmp c.args.checker.now.closing)
    c.requires.machine c.requires.index

pub returns-then-not-may_follow-clause-illegal : goal.returns-then-not-may_follow-clause-illegal
returns-then-not-may_follow-clause-illegal g c at q =
    let may : F.may_follow c.args.most (past_of (take c.loop-k.k c.args.journal.now))
    c.index-journal-k.result ≡ false =
    sym (says_follow c.args.most (past_of (take c.loop-k.k c.args.journal.now))
    c.loop-k.checker.machine (contains pair_cmp c.loop-k.checker.fronts)
    (contains nat_cmp c.loop-k.checker.closing) c.loop-k.due c.loop-k.ready
    c.index-journal-k.result c.loop-k.invariant)
    ∙ (sym (c.may_follow.ensures c.loop-k.invariant.index
    (read_sound c.args.most (past_of (take c.loop-k.k c.args.journal.now))
    c.loop-k.checker.machine c.loop-k.invariant.legal c.loop-k.invariant.is))
    ∙ c.if-not-may_follow.true)
    in
    subst (RefusesAt c.args.journal.now c.args.most) (same_place c.loop-k.k at q)
    (refused_at c.args.journal.now c.args.most c.loop-k.k c.index-journal-k.result
    c.loop-k-test.true c.loop-k.invariant.legal
    (ap (F.may_follow c.args.most (past_of (take c.loop-k.k c.args.journal.now)))
    (sym c.index-journal-k.is) ∙ may))

pub step-requires-clause-small : goal.step-requires-clause-small
step-requires-clause-small g c =
    let len : length (past_of (take c.loop-k.k c.args.journal.now)) ≡ c.loop-k.k =
    length-past c.args.journal.now c.loop-k.k (omega arith) in
    let room : length (past_of (take c.loop-k.k c.args.journal.now)) + 1 < 2 ^ 64 = omega arith in
    small_base c.args.most (past_of (take c.loop-k.k c.args.journal.now)) c.loop-k.checker.machine
    c.loop-k.invariant.legal c.loop-k.invariant.is room

pub step-requires-clause-due : goal.step-requires-clause-due
step-requires-clause-due g c timer is =
    let may : F.may_follow c.args.most (past_of (take c.loop-k.k c.args.journal.now))
    c.index-journal-k.result ≡ true =
    sym (says_follow c.args.most (past_of (take c.loop-k.k c.args.journal.now))
    c.loop-k.checker.machine (contains pair_cmp c.loop-k.checker.fronts)
    (contains nat_cmp c.loop-k.checker.closing) c.loop-k.due c.loop-k.ready
    c.index-journal-k.result c.loop-k.invariant)
    ∙ (sym (c.may_follow.ensures c.loop-k.invariant.index
    (read_sound c.args.most (past_of (take c.loop-k.k c.args.journal.now))
    c.loop-k.checker.machine c.loop-k.invariant.legal c.loop-k.invariant.is))
    ∙ c.if-not-may_follow.false)
    in
    says_first c.args.most (past_of (take c.loop-k.k c.args.journal.now)) c.loop-k.checker.machine
    c.index-journal-k.result timer c.loop-k.invariant.is c.loop-k.invariant.legal may is

pub loop-k-preserved : goal.loop-k-preserved
loop-k-preserved g c =
    let may : F.may_follow c.args.most (past_of (take c.loop-k.k c.args.journal.now))
    c.index-journal-k.result ≡ true =
    sym (says_follow c.args.most (past_of (take c.loop-k.k c.args.journal.now))
    c.loop-k.checker.machine (contains pair_cmp c.loop-k.checker.fronts)
    (contains nat_cmp c.loop-k.checker.closing) c.loop-k.due c.loop-k.ready
    c.index-journal-k.result c.loop-k.invariant)
    ∙ (sym (c.may_follow.ensures c.loop-k.invariant.index
    (read_sound c.args.most (past_of (take c.loop-k.k c.args.journal.now))
    c.loop-k.checker.machine c.loop-k.invariant.legal c.loop-k.invariant.is))
    ∙ c.if-not-may_follow.false)
    in
    let next : IsNext c.loop-k.checker.machine c.index-journal-k.result =
    says_next c.args.most (past_of (take c.loop-k.k c.args.journal.now))
    c.index-journal-k.result c.loop-k.invariant.legal may c.loop-k.checker.machine
    c.loop-k.invariant.is in
    read_more c.args.most c.args.journal.now c.loop-k.k c.index-journal-k.result
    c.loop-k.checker.machine c.step.new.self.machine (contains pair_cmp c.loop-k.checker.fronts)
    (contains pair_cmp c.step.new.self.fronts) (contains nat_cmp c.loop-k.checker.closing)
    (contains nat_cmp c.step.new.self.closing)
    c.loop-k.due c.loop-k.ready c.loop-k-test.true c.index-journal-k.is c.loop-k.invariant may
    (c.in_ok-step.ensures.machine (read_sound c.args.most
    (past_of (take c.loop-k.k c.args.journal.now)) c.loop-k.checker.machine
    c.loop-k.invariant.legal c.loop-k.invariant.is) next)
    (c.in_ok-step.ensures.index c.loop-k.invariant.index
    (read_sound c.args.most (past_of (take c.loop-k.k c.args.journal.now))
    c.loop-k.checker.machine c.loop-k.invariant.legal c.loop-k.invariant.is) next
    (next_sound c.args.most (past_of (take c.loop-k.k c.args.journal.now))
    c.index-journal-k.result c.loop-k.checker.machine c.loop-k.invariant.legal
    c.loop-k.invariant.is may))
    c.admits_due-due.result c.admits_ready-ready.result c.admits_due-due.ensures
    c.admits_ready-ready.ensures
