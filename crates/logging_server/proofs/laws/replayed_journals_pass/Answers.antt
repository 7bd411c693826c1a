use Rattle.logging_server.proofs.Passing.{replayed_pass}
use Rattle.logging_server.proofs.laws.replayed_journals_pass.Goals as goal

pub returns : goal.returns
returns g c options limit i j output volumes played text replays most given k l o p how told audits
    =
    replayed_pass _ g.K.Sink.facts g.V.Volumes.facts options limit i j output volumes played text
    replays most given k l o p how told audits
