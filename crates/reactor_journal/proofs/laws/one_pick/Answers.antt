use Rattle.reactor_journal.specs.Past.{past_of}
use Rattle.reactor_journal.proofs.Picking.{pick_one, pick_some}
use Rattle.reactor_journal.proofs.laws.one_pick.Goals as goal

pub returns-clause-one : goal.returns-clause-one
returns-clause-one g c journal i j h k = pick_one (past_of journal) i j h k

pub returns-clause-some : goal.returns-clause-some
returns-clause-some g c journal i a = pick_some (past_of journal) i a
