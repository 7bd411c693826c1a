use Rattle.std.proofs.Common.{◌≤◌, ℕ, subst}
use Rattle.reactor_journal.specs.Past.{past_of, starts}
use Rattle.reactor_journal.proofs.Turning.{count-past}
use Rattle.reactor_journal.proofs.OneOpen.{started_is_event}
use Rattle.reactor_journal.proofs.Fates.{started_once}
use Rattle.reactor_journal.proofs.laws.one_fate.Goals as goal

pub returns-clause-once : goal.returns-clause-once
returns-clause-once g c journal most i legal =
    subst (λ (n : ℕ). n ≤ 1) (count-past (starts i) journal)
    (started_once most (past_of journal) legal i)

pub returns-clause-event : goal.returns-clause-event
returns-clause-event g c journal most i legal s = started_is_event most (past_of journal) legal i s
