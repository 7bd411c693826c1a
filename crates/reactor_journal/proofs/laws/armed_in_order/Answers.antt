use Rattle.reactor_journal.specs.Past.{past_of}
use Rattle.reactor_journal.proofs.Rising.{armed_rising, armed_once}
use Rattle.reactor_journal.proofs.laws.armed_in_order.Goals as goal

pub returns-clause-rising : goal.returns-clause-rising
returns-clause-rising g c journal most legal = armed_rising most (past_of journal) legal

pub returns-clause-once : goal.returns-clause-once
returns-clause-once g c journal most legal = armed_once most (past_of journal) legal
