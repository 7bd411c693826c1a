use denote.Exit.{no}
use denote.Param.Send.{arg_send, param_send, sendable}
use Rattle.std.proofs.Common.{rules, ap, ◌∙◌}
use Rattle.chosen_timers.proofs.ChosenTimers.TheSendSync as timers
use Rattle.server_run.specs.declared.asked.Asked.{Asked}
use Rattle.cmd_pool.proofs.putter.RecordPutter.TheSendSync as putters
use Rattle.cmd_pool.proofs.Begins.{can-start-as, fine-as}
use Rattle.cmd_pool.proofs.Leaves.{as-asked, leaves-net, leaves-pool, listened}
use Rattle.cmd_pool.proofs.serving.serve_given.Goals as goal

pub returns-in_default-clause-leaves : goal.returns-in_default-clause-leaves
returns-in_default-clause-leaves g c =
    leaves-net _ g.K.Sink.facts c.args.options c.args.output c.unserved.result c.args.given.0
    c.unserved.ensures.end c.unserved.ensures.net c.unserved.ensures.journal
    c.unserved.ensures.output c.requires.listener.net c.requires.net_keeps

pub returns-in_default-open-clause-leaves : goal.returns-in_default-open-clause-leaves
returns-in_default-open-clause-leaves g c =
    let left = c.unserved-in_default-open in
    leaves-net _ g.K.Sink.facts c.args.options c.args.output left.result c.args.given.0
    left.ensures.end left.ensures.net left.ensures.journal left.ensures.output
    c.requires.listener.net c.requires.net_keeps

pub serve_observed-served-requires : goal.serve_observed-served-requires
serve_observed-served-requires g c κs within =
    let bounds = c.type_bounds in
    let asked = c.asked_by-asked.result in
    let is = c.asked_by-asked.ensures in
    let ready = fine-as asked c.args.options is c.requires.ranges in
    let start = can-start-as c.args.options asked is _ _ _ _ c.requires.listener.net
    c.requires.net_keeps c.in-Ok.ensures.timers tt c.requires.listener_keeps in
    let workers = ap (λ (a : Asked). a.workers) is ∙ c.in-Ok-open.ensures in
    (search rules, (search rules, (search rules, (search rules, (search rules, (search rules, (search rules, (search rules, (search (bounds.send-E, sendable) depth 20, (search (bounds.send-M, sendable) depth 20, (search (timers.the_send, sendable) depth 20, (search sendable depth 20, (search sendable depth 20, (param_send _ _ (arg_send _ no _ (putters.the_send _ bounds.send-R)), (search (bounds.sync-R, sendable) depth 20, (search (bounds.sync-W, sendable) depth 20, (ready, (c.requires.listener, (start, workers)))))))))))))))))))

pub returns-clause-leaves : goal.returns-clause-leaves
returns-clause-leaves g c =
    leaves-pool _ g.K.Sink.facts c.args.options c.args.output _ c.args.given.0 _
    c.serve_observed-served.result
    (as-asked _ _ c.asked_by-asked.ensures c.serve_observed-served.ensures.run)
    c.requires.listener.net c.serve_observed-served.ensures.causes c.leave.result
    c.leave.ensures.net c.leave.ensures.journal c.leave.ensures.writes

pub returns-clause-listened : goal.returns-clause-listened
returns-clause-listened g c =
    listened _ g.K.Sink.facts _ _ _ c.leave.result _ c.leave.ensures.net
    (leaves-pool _ g.K.Sink.facts c.args.options c.args.output _ c.args.given.0 _
    c.serve_observed-served.result
    (as-asked _ _ c.asked_by-asked.ensures c.serve_observed-served.ensures.run)
    c.requires.listener.net c.serve_observed-served.ensures.causes c.leave.result
    c.leave.ensures.net c.leave.ensures.journal c.leave.ensures.writes)
