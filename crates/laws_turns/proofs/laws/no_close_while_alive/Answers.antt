use Rattle.reactor_summary.specs.reactor_journal.specs.Past.{past_of}
use Rattle.laws_turns.proofs.Turns.{had_stays}
use Rattle.laws_turns.proofs.laws.no_close_while_alive.Goals as goal

pub returns : goal.returns
returns g c journal most x legal alive = had_stays most (past_of journal) x legal alive
