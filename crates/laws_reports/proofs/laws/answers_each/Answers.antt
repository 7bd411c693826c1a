use Rattle.reactor_summary.specs.reactor_journal.specs.Past.{past_of}
use Rattle.laws_reports.proofs.Turns.{answered}
use Rattle.laws_reports.proofs.laws.answers_each.Goals as goal

pub returns : goal.returns
returns g c journal most x k legal free alive no_pick none_open =
    answered k most (past_of journal) x legal free alive no_pick none_open
