use Rattle.cmd_replay.specs.Playing.{terms_of_content}
use Rattle.cmd_replay.specs.Replays.{unseen}
use Rattle.cmd_replay.proofs.forms.run_grouped.Given as goal

abbrev pub ghost-play : goal.ghost-play
ghost-play g a = terms_of_content a.asked.connections a.asked.idle a.script unseen
    (g.V.Volumes.facts a.volumes)
