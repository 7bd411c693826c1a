use Rattle.reactor_journal.specs.Past.{past_of}
use Rattle.reactor_summary.specs.Summary.{summary}
use Rattle.reactor_summary.proofs.Told.{told}
use Rattle.reactor_summary.proofs.Follows.{may_follow_is}
use Rattle.reactor_summary.proofs.laws.summary_rules.Goals as goal

pub returns : goal.returns
returns g c journal e most legal =
    may_follow_is most (past_of journal) (summary (past_of journal)) e legal
    (told most (past_of journal) legal)
