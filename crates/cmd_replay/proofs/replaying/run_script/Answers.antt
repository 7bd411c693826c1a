use Rattle.cmd_replay.specs.Replays.{asked_by}
use Rattle.cmd_replay.proofs.Outcomes.{runs-none}
use Rattle.cmd_replay.proofs.replaying.run_script.Goals as goal

pub returns-in-Err : goal.returns-in-Err
returns-in-Err g c = λ groups text.
    runs-none g.K.Sink.facts g.V.Volumes.facts c.args.options.form
    (asked_by c.args.options (g.V.Volumes.facts c.args.volumes).size) groups c.args.output
    c.args.volumes c.unserved.result c.unserved.ensures.end c.unserved.ensures.unserved
