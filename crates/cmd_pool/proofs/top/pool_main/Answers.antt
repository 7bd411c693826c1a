use Rattle.std.proofs.Common.{◌∙◌, inl, sym}
use Rattle.cmd_pool.proofs.Leaves.{runs-as}
use Rattle.cmd_pool.proofs.top.pool_main.Goals as goal

pub returns-in-Ok-Some-clause-runs : goal.returns-in-Ok-Some-clause-runs
returns-in-Ok-Some-clause-runs g c options told =
    inl (runs-as c.in-Ok-Some.options options _
    (sym c.in-Ok-Some.ensures.options ∙ c.in-Ok-Some.field-0-is) told
    (record {
      served = c.serve_host.result;
      is = c.answer.ensures;
      leaves = c.serve_host.ensures.leaves;
      listens = c.serve_host.ensures.listens;
      asked = c.serve_host.ensures.asked;
    }))
