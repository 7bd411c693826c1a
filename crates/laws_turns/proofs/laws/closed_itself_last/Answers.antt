use Rattle.reactor_summary.specs.reactor_journal.specs.Past.{past_of, had}
use Rattle.laws_turns.proofs.Turns.{Last, ended_last, own_reason}
use Rattle.laws_turns.proofs.laws.closed_itself_last.Goals as goal

pub returns : goal.returns
returns g c journal most x legal own =
    let l : Last g.row.N.Denot (had (past_of journal) x) =
    ended_last most (past_of journal) x legal (own_reason (past_of journal) x own) in
    (l.before, l.last, l.are, l.closes)
