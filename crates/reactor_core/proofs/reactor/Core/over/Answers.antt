use Rattle.reactor_model.specs.reactor_journal.specs.Past.{past_of}
use Rattle.reactor_core.proofs.WaitNumbers.{marks_over}
use Rattle.reactor_core.proofs.reactor.Core.over.Goals as goal

pub returns-clause-there : goal.returns-clause-there
returns-clause-there g c t F h o some =
    marks_over c.args.self.now.marks (past_of h) (g.M.Net.facts c.args.self.now.net).calls some
    o.tracks.marks
