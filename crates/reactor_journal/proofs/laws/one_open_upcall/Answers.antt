use Rattle.reactor_journal.specs.Past.{past_of}
use Rattle.reactor_journal.proofs.OneOpen.{one_open}
use Rattle.reactor_journal.proofs.laws.one_open_upcall.Goals as goal

pub returns : goal.returns
returns g c journal most i j x legal oi oj bi bj =
    one_open most (past_of journal) legal i j x oi oj bi bj
