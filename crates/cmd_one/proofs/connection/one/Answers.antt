use Rattle.one_run.specs.Opening.{terms_of_run}
use Rattle.one_run.proofs.Begins.{starts_as}
use Rattle.cmd_one.proofs.Serving.{runs_with}
use Rattle.cmd_one.proofs.connection.one.Goals as goal

pub serve-requires : goal.serve-requires
serve-requires g c =
    let i = g.S.Source.facts c.args.input in
    let o = g.K.Sink.facts c.args.output in
    let w = g.V.Volumes.facts c.in-Ok.core.volumes in (
      i,
      o,
      c.in-Ok.ensures.ok (terms_of_run i o w)
          (starts_as i o (g.V.Volumes.facts c.args.volumes) w c.in-Ok.ensures.volumes),
    )

pub returns-in-Ok : goal.returns-in-Ok
returns-in-Ok g c =
    let i = g.S.Source.facts c.args.input in
    let o = g.K.Sink.facts c.args.output in
    let v = g.V.Volumes.facts c.args.volumes in
    let w = g.V.Volumes.facts c.in-Ok.core.volumes in
    runs_with g.S.Source.facts g.K.Sink.facts g.V.Volumes.facts i o v w c.serve.result
    c.in-Ok.ensures.volumes
    (c.serve.ensures i o (c.in-Ok.ensures.ok (terms_of_run i o w)
    (starts_as i o v w c.in-Ok.ensures.volumes)))

pub returns-in-Err : goal.returns-in-Err
returns-in-Err g c =
    let i = g.S.Source.facts c.args.input in
    let o = g.K.Sink.facts c.args.output in
    runs_with g.S.Source.facts g.K.Sink.facts g.V.Volumes.facts i o
    (g.V.Volumes.facts c.args.volumes) (g.V.Volumes.facts c.in-Err.left.volumes)
    c.give_up.result c.in-Err.ensures.err.1
    (c.give_up.ensures c.args.input c.args.output c.in-Err.ensures.err.0)
