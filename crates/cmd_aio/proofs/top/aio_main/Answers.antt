use Rattle.std.proofs.Common.{◌∙◌, inl, sym}
use Rattle.cmd_aio.proofs.Runs.{runs_as}
use Rattle.cmd_aio.proofs.top.aio_main.Goals as goal

pub returns-in-Ok-Some-clause-runs : goal.returns-in-Ok-Some-clause-runs
returns-in-Ok-Some-clause-runs g c said told =
    inl (runs_as _ _ _ c.in-Ok-Some.said said _ _ _ _ _
    (sym c.in-Ok-Some.ensures ∙ c.in-Ok-Some.field-0-is) told
    (record {
      ran = c.serve_host.result;
      is = c.answer.ensures;
      leaves = c.serve_host.ensures.leaves;
      listens = c.serve_host.ensures.listens;
      asked = c.serve_host.ensures.asked;
    }))
