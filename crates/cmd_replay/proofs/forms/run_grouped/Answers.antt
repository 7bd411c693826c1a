use denote.Param.Send.{param_send, param_sync, sendable}
use Rattle.std.proofs.Common.{rules, ◌∙◌, subst, refl, Some, true}
use Rattle.cmd_line.specs.declared.options.Form.TheVariants.{Grouped}
use Rattle.server_run.specs.reactor_model.proofs.watch.NoWatch.TheSendSync as sends
use Rattle.grouped_lines.specs.laws_script_runs.specs.Connections.{lines_by_connection}
use Rattle.cmd_replay.specs.Leading.{unwatched}
use Rattle.cmd_replay.specs.Replays.{WritesHeld, unseen}
use Rattle.cmd_replay.specs.declared.ends.ReplayEnd.{ReplayEnd}
use Rattle.cmd_replay.proofs.RunsScript.{can-play, leaves-kept, leaves-so, put_back, rose-kept}
use Rattle.cmd_replay.proofs.RunsScript.{runs-script, steady-kept, writes-behind}
use Rattle.cmd_replay.proofs.forms.run_grouped.Goals as goal

pub play-served-requires : goal.play-served-requires
play-served-requires g c κs within =
    let can = can-play (λ t watch h. Unit {0}) g.V.Volumes.facts c.args.asked c.args.script
    c.args.timers _ c.args.volumes unseen c.requires.timers c.requires.limit tt in (
      search rules,
      (
        search rules,
        (
          search rules,
          (
            search (sends.the_send, sendable) depth 20,
            (
              param_send _ _ c.type_bounds.send-V,
              (
                param_sync _ _ c.type_bounds.sync-R,
                (c.requires.fine, (can, (refl {a = Some true}, c.requires.limit))),
              ),
            ),
          ),
        ),
      ),
    )

pub returns : goal.returns
returns g c = λ groups text.
    let o = g.K.Sink.facts c.args.output in
    let v = g.V.Volumes.facts c.args.volumes in
    let kept = c.kept_of-ending.result in
    let played = c.play-served.result in
    let served = put_back played kept in
    let is_kept = c.kept_of-ending.ensures in
    let net = steady-kept played kept is_kept c.play-served.ensures.net in
    let rose = rose-kept g.V.Volumes.facts v.faults played kept is_kept
    c.play-served.ensures.volumes in
    let p = g.K.Sink.facts c.write_held-end.result.1 in
    let left = leaves-so (unwatched _ g.V.Volumes.facts) c.args.asked c.args.script groups
    unseen unseen v played refl text c.requires.limit c.play-served.ensures.leaves in
    let l = leaves-kept (unwatched _ g.V.Volumes.facts) _ c.args.asked groups played kept
    is_kept left in
    let held = subst (λ (e : ReplayEnd).
    WritesHeld e served.parts.first o (lines_by_connection c.as_slice.result.now)
    c.write_held-end.result.0 p) c.end_by-run.ensures c.write_held-end.ensures in
    let both = writes-behind served.ending served.parts.first o c.as_slice.result.now l.journal
    c.write_held-end.result.0 p v.faults (g.V.Volumes.facts served.parts.volumes).faults net
    rose
    (c.as_slice.ensures ∙ l.is.held) held in
    runs-script (unwatched _ g.V.Volumes.facts) g.K.Sink.facts Grouped c.args.asked groups o v
    served c.write_held-end.result.0 c.write_held-end.result.1 l l.ran both.0 both.1
