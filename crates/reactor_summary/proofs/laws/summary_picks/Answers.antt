use Rattle.reactor_journal.specs.Past.{past_of}
use Rattle.reactor_summary.specs.Summary.{summary}
use Rattle.reactor_summary.proofs.Told.{told}
use Rattle.reactor_summary.proofs.Picks.{Picked, pick_picks, pick_none}
use Rattle.reactor_summary.proofs.laws.summary_picks.Goals as goal

pub returns-clause-that : goal.returns-clause-that
returns-clause-that g c journal most w legal h =
    let p : Picked (past_of journal) w =
    pick_picks most (past_of journal) (summary (past_of journal)) w legal
    (told most (past_of journal) legal) h in
    (p.pick, p.waits)

pub returns-clause-none : goal.returns-clause-none
returns-clause-none g c journal most i legal h =
    pick_none most (past_of journal) (summary (past_of journal)) i legal
    (told most (past_of journal) legal) h
