use Rattle.std.proofs.lemmas.Bool.{false≢true}
use Rattle.std.proofs.Common.{sym, ◌∙◌}
use Rattle.std.specs.BTreeMap.{is_at}
use Rattle.std.specs.Ordering.{nat_cmp}
use Rattle.journal_check.proofs.Keyed.{empty_none}
use Rattle.journal_check.proofs.Upkeep.{some_waits, none_waits}
use Rattle.journal_check.proofs.checker.Checker.some_wait.Goals as goal

pub returns-in-Some : goal.returns-in-Some
returns-in-Some c u = some_waits c.args.self.now.machine c.in-Some.field-0.now
    (sym (u.waits c.in-Some.field-0.now) ∙ c.in-Some.ensures.member)

pub returns-in-None : goal.returns-in-None
returns-in-None c u = none_waits c.args.self.now.machine
    (λ x. sym (u.waits x) ∙ empty_none (is_at (nat_cmp x)) c.args.self.now.closing.keys
    (λ lt. false≢true (c.in-None.ensures.variant.1 lt)))
