use Rattle.std.proofs.Common.{ap}
use Rattle.reactor_journal.specs.Past.{past_of}
use Rattle.reactor_journal.proofs.Turning.{past_of-more}
use Rattle.reactor_summary.specs.Summary.{summary}
use Rattle.reactor_summary.proofs.Told.{told}
use Rattle.reactor_summary.proofs.laws.summary_tells.Goals as goal

pub returns-clause-kept : goal.returns-clause-kept
returns-clause-kept g c journal e = ap summary (past_of-more journal e)

pub returns-clause-told : goal.returns-clause-told
returns-clause-told g c journal most legal = told most (past_of journal) legal
