use Rattle.std.proofs.Common.{subst}
use Rattle.script_net.specs.event_script.specs.Grammar.{IsScriptText}
use Rattle.cmd_replay.proofs.Outcomes.{served-so}
use Rattle.cmd_replay.proofs.replaying.replay_text.Goals as goal

pub returns-in-Ok : goal.returns-in-Ok
returns-in-Ok g c =
    let of = c.in-Ok.ensures.script in
    let is_text = subst (λ text. IsScriptText text of.groups) c.deref.ensures.value of.is_text in
    let runs = c.run_script.ensures of.groups
    (record { text = c.args.text.items; is_text = is_text; has = of.has }) in
    served-so g.K.Sink.facts g.V.Volumes.facts c.args.options c.args.text.items c.args.output
    c.args.volumes c.run_script.result c.run_script.result.end runs.how _ _ runs.ends
    (record { groups = of.groups; is_text = is_text; runs = runs })
