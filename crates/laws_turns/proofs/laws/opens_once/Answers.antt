use Rattle.reactor_summary.specs.reactor_journal.specs.Past.{past_of}
use Rattle.laws_turns.proofs.Opens.{opens_are}
use Rattle.laws_turns.proofs.laws.opens_once.Goals as goal

pub returns : goal.returns
returns g c journal most event legal = opens_are most (past_of journal) event legal
