use Rattle.reactor.specs.reactor_journal.specs.Past.{past_of}
use Rattle.echo_server.proofs.Runs.{are_echoed}
use Rattle.echo_server.proofs.opening.finish.Goals as goal

pub returns-clause-echoed : goal.returns-clause-echoed
returns-clause-echoed g c =
    let l = c.close.ensures.leaves in
    are_echoed g.E.PeerEnd g.E.PeerEnd.tells g.E.PeerEnd.keeps l.terms (past_of l.history) _
    l.stand.net.retired
