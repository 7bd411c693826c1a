use Rattle.server_run.specs.log_handler.specs.LineSink.{sink_of}
use Rattle.cmd_replay.specs.Playing.{terms_of_content}
use Rattle.cmd_replay.proofs.forms.run_plain.Given as goal

abbrev pub ghost-play : goal.ghost-play
ghost-play g a = terms_of_content a.asked.connections a.asked.idle a.script
    (g.K.Sink.facts (sink_of a.watch)) (g.V.Volumes.facts a.volumes)
