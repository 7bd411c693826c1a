use denote.Exit.{no}
use denote.Param.Send.{param_send, param_sync, arg_send}
use Rattle.std.proofs.Common.{rules, ◌≡◌, ◌+◌, ◌∙◌, ap, sym, subst, refl}
use Rattle.server_run.specs.log_handler.specs.line_sink.proofs.sink.LineSink.TheSendSync as sends
use Rattle.server_run.specs.log_handler.specs.LineSink as lines
use Rattle.cmd_line.specs.declared.options.Form.TheVariants.{Plain}
use Rattle.cmd_replay.specs.Leading.{with_lines}
use Rattle.cmd_replay.specs.Outputs.{WritesText, text_in}
use Rattle.cmd_replay.specs.Playing.{terms_of_content}
use Rattle.cmd_replay.specs.Replays.{EndsReplay, end_by}
use Rattle.cmd_replay.specs.declared.ends.ReplayEnd.{ReplayEnd}
use Rattle.cmd_replay.proofs.RunsScript.{can-play, ends-as, leaves-kept, leaves-so, number_is}
use Rattle.cmd_replay.proofs.RunsScript.{put_back, rose-kept, runs-script, steady-kept}
use Rattle.cmd_replay.proofs.Writing.{by-lines, writes-along}
use Rattle.cmd_replay.proofs.forms.run_plain.Goals as goal

pub play-served-requires : goal.play-served-requires
play-served-requires g c κs within =
    let unlimited = c.requires.limit in
    let same = sym c.new-watch.ensures.output in
    let o = g.K.Sink.facts (lines.sink_of c.new-watch.result) in
    let t = terms_of_content c.args.asked.connections c.args.asked.idle c.args.script o
    (g.V.Volumes.facts c.args.volumes) in
    let seen = c.new-watch.ensures.stands t
    (λ text told. ap (λ k. (g.K.Sink.facts k).text) same ∙ told)
    (λ n told. ap (λ k. (g.K.Sink.facts k).faults) same ∙ number_is _ n told) in
    let can = can-play (lines.PutsLines g.K.Sink.facts) g.V.Volumes.facts c.args.asked c.args.script
    c.args.timers c.new-watch.result c.args.volumes o c.requires.timers unlimited seen in (
      search rules,
      (
        search rules,
        (
          search rules,
          (
            param_send _ _ (arg_send _ no _ (sends.the_send _ _ c.type_bounds.send-K)),
            (
              param_send _ _ c.type_bounds.send-V,
              (param_sync _ _ c.type_bounds.sync-R, (c.requires.fine, (can, (refl, unlimited)))),
            ),
          ),
        ),
      ),
    )

pub returns : goal.returns
returns g c = λ groups text.
    let o = g.K.Sink.facts c.args.output in
    let v = g.V.Volumes.facts c.args.volumes in
    let kept = c.kept_of-ending.result in
    let played = c.play-served.result in
    let served = put_back played kept in
    let is_kept = c.kept_of-ending.ensures in
    let net = steady-kept played kept is_kept c.play-served.ensures.net in
    let rose = rose-kept g.V.Volumes.facts v.faults played kept is_kept
    c.play-served.ensures.volumes in
    let broken = lines.is_broken served.parts.watch in
    let left = leaves-so (with_lines _ g.K.Sink.facts g.V.Volumes.facts) c.args.asked
    c.args.script groups (g.K.Sink.facts (lines.sink_of c.new-watch.result)) o v played
    (ap g.K.Sink.facts c.new-watch.ensures.output) text c.requires.limit
    c.play-served.ensures.leaves in
    let l = leaves-kept (with_lines _ g.K.Sink.facts g.V.Volumes.facts) _ c.args.asked groups
    played kept is_kept left in
    let is : c.end_by-end.result ≡ end_by broken served.ending =
    c.end_by-end.ensures ∙ ap (λ b. end_by b served.ending) c.broken.ensures in
    let ends = ends-as broken served.ending v.faults _ net rose in
    let written = writes-along broken served.ending o _ _
    (by-lines g.K.Sink.facts _ o served.parts.watch l.journal refl refl l.watch) in
    runs-script (with_lines _ g.K.Sink.facts g.V.Volumes.facts) g.K.Sink.facts Plain
    c.args.asked groups o v served c.end_by-end.result c.into_output.result l l.ran
    (subst (λ (e : ReplayEnd). EndsReplay e served.ending v.faults
    (g.V.Volumes.facts served.parts.volumes).faults) (sym is) ends)
    (subst (λ k. WritesText Plain c.end_by-end.result o
    (text_in Plain (c.args.asked.connections + 1) l.journal) (g.K.Sink.facts k))
    (sym c.into_output.ensures)
    (subst (λ (e : ReplayEnd). WritesText Plain e o
    (text_in Plain (c.args.asked.connections + 1) l.journal)
    (g.K.Sink.facts (lines.sink_of served.parts.watch))) (sym is) written))
