use Rattle.std.proofs.Common.{ℕ, ◌∙◌, ap, sym, subst, refl}
use Rattle.one_run.specs.Opening.{terms_of_run}
use Rattle.one_run.proofs.Begins.{starts}
use Rattle.one_run.proofs.Finishing.{ended_can}
use Rattle.one_run.proofs.Leaves.{one_came_back}
use Rattle.one_run.specs.Running.{VolumesSince}
use Rattle.cmd_one.specs.Ran.{end_by}
use Rattle.cmd_one.proofs.Serving.{left_of, runs}
use Rattle.cmd_one.proofs.connection.serve.Goals as goal

pub run-ending-requires : goal.run-ending-requires
run-ending-requires g c =
    let r = c.requires in
    let v = g.V.Volumes.facts c.args.core.volumes in
    (terms_of_run r.0 r.1 v, r.2.0, r.2.1, r.2.2, ((starts r.0 r.1 v).of_one, r.2.3))

pub finish-journal-requires : goal.finish-journal-requires
finish-journal-requires g c =
    let r = c.requires in
    let v = g.V.Volumes.facts c.args.core.volumes in
    let of_one = (starts r.0 r.1 v).of_one in
    let n = c.run-ending.ensures.leads (terms_of_run r.0 r.1 v) r.2.0 r.2.1 r.2.2 of_one r.2.3 in
    (terms_of_run r.0 r.1 v, n.0, n.1, n.2, (of_one, ended_can _ _ n.1 n.3.0))

pub into_retired-end-requires : goal.into_retired-end-requires
into_retired-end-requires g c =
    let r = c.requires in
    let v = g.V.Volumes.facts c.args.core.volumes in
    let t = terms_of_run r.0 r.1 v in
    let of_one = (starts r.0 r.1 v).of_one in
    let n = c.run-ending.ensures.leads t r.2.0 r.2.1 r.2.2 of_one r.2.3 in
    let l = c.finish-journal.ensures.ends t n.0 n.1 n.2 of_one (ended_can _ _ n.1 n.3.0) in
    one_came_back _ t l.journal l.finished _ _ _ l.legal l.stand.net refl refl

pub returns : goal.returns
returns g c i o stands =
    let source = g.S.Source.facts in
    let sink = g.K.Sink.facts in
    let volumes = g.V.Volumes.facts in
    let v = volumes c.args.core.volumes in
    let t = terms_of_run i o v in
    let of_one = (starts i o v).of_one in
    let n = c.run-ending.ensures.leads t stands.0 stands.1 stands.2 of_one stands.3 in
    let taken = subst (λ (now : ℕ). VolumesSince c.run-ending.result.halt v.faults now)
    (sym (ap (λ w. (volumes w).faults) c.finish-journal.ensures.volumes))
    c.run-ending.ensures.volumes in
    let left = left_of _ source sink volumes i o v _ c.finish-journal.result
    c.run-ending.result.halt c.run-ending.result.lost n.1 n.3.0 _ n.3.1
    c.finish-journal.ensures.later (λ may.
    c.finish-journal.ensures.ends t n.0 n.1 n.2 of_one may)
    (λ now lost shut. c.finish-journal.ensures.closed t n.0 n.1 now lost n.2 of_one shut) taken
    (λ why. c.finish-journal.ensures.broken (c.run-ending.ensures.broken why)) in
    runs _ source sink volumes c.courses_account.ensures i o v c.finish-journal.result
    c.run-ending.result.halt c.run-ending.result.lost left c.into_retired-end.result
    c.into_retired-end.ensures
    c.broken.result c.is_too_long.result c.broken.ensures c.is_too_long.ensures.met
    c.is_too_long.ensures.not_met c.least.result c.into_input.result c.into_output.result
    (c.least.ensures ∙ ap (λ failed. end_by failed c.broken.result c.is_too_long.result
    c.run-ending.result.lost c.run-ending.result.halt) c.has_failed.ensures)
    c.into_input.ensures c.into_output.ensures
