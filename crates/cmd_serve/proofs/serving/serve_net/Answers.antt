use denote.Exit.{no}
use denote.Param.Send.{arg_send, param_send, param_sync, sendable}
use Rattle.std.proofs.Common.{rules, refl}
use Rattle.chosen_timers.proofs.ChosenTimers.TheSendSync as timers
use Rattle.server_run.specs.log_handler.specs.line_sink.proofs.sink.LineSink.TheSendSync as lines
use Rattle.cmd_serve.specs.Starting.{asked_by}
use Rattle.cmd_serve.proofs.Begins.{can-start, faults-are, fine, opening-is}
use Rattle.cmd_serve.proofs.Leaves.{leaves-host, leaves-net, sized, under}
use Rattle.cmd_serve.proofs.serving.serve_net.Goals as goal

pub returns-in_default-clause-leaves : goal.returns-in_default-clause-leaves
returns-in_default-clause-leaves g c =
    let given = c.requires.1.1.1.1.1.1.1.1.1.1.1.1.1 in
    leaves-net _ g.K.Sink.facts c.args.options c.args.output c.args.volumes
    (asked_by c.args.options (g.V.Volumes.facts c.args.volumes).size)
    c.unserved.result c.unserved.ensures.untouched g.terms c.args.given.0 given.0
    c.unserved.ensures.end c.unserved.ensures.net given.1.0.net given.1.1.0

pub serve-requires : goal.serve-requires
serve-requires g c κs within =
    let bounds = c.requires.1.1.1.1.1.1 in
    let given = bounds.1.1.1.1.1.1 in
    let o = g.K.Sink.facts c.args.output in
    let v = g.V.Volumes.facts c.args.volumes in
    let ready = fine _ c.args.options refl refl refl c.volume_size.ensures.within.some given.0 in
    let seen = c.new-2.ensures.stands g.terms (opening-is c.args.options o v g.terms given.1.0)
    (faults-are c.args.options o v g.terms given.1.0) in
    let start = can-start c.args.options o v g.terms given.1.0 _ _ _ _ _ refl refl refl refl
    given.1.1.0.net given.1.1.1.0 c.in-Ok.ensures.timers seen given.1.1.1.1 in (
      search rules,
      (
        search rules,
        (
          search rules,
          (
            search rules,
            (
              search rules,
              (
                search rules,
                (
                  search rules,
                  (
                    param_send _ _ bounds.0,
                    (
                      param_send _ _ bounds.1.0,
                      (
                        search (timers.the_send, sendable) depth 20,
                        (
                          param_send _ _ (arg_send _ no _ (lines.the_send _ _
                              (param_send _ _ bounds.1.1.0))),
                          (
                            param_send _ _ bounds.1.1.1.0,
                            (
                              param_sync _ _ bounds.1.1.1.1.0,
                              (param_sync _ _ bounds.1.1.1.1.1.0, (ready, (given.1.1.0, start))),
                            ),
                          ),
                        ),
                      ),
                    ),
                  ),
                ),
              ),
            ),
          ),
        ),
      ),
    )

pub returns-clause-leaves : goal.returns-clause-leaves
returns-clause-leaves g c =
    let given = c.requires.1.1.1.1.1.1.1.1.1.1.1.1.1 in
    let l = under g.terms _ given.0 c.serve.ensures.run in
    let left = leaves-host _ g.K.Sink.facts c.args.options c.args.output c.args.volumes _ _
    c.args.given.0 c.serve.result l c.leave.result c.leave.ensures given.1.0.net
    c.serve.ensures.causes l.stand.watch in
    sized c.args.options _ _ c.volume_size.ensures.size left
