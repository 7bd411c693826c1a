use Rattle.std.proofs.Common.{◌∙◌, ap, refl}
use Rattle.exit_status.specs.Statuses.{code_of}
use Rattle.logging_server.proofs.Lefts.{with-codes}
use Rattle.logging_server.proofs.runs.run_host.Goals as goal

pub returns : goal.returns
returns g c = record {
  host = c.serve_host-end.result;
  leaves = c.serve_host-end.ensures.leaves;
  listens = c.serve_host-end.ensures.listens;
  asked = c.serve_host-end.ensures.asked;
  refused = c.serve_host-end.ensures.refused;
  volumes_fault = c.serve_host-end.ensures.volumes;
  is = with-codes _ _ _ (c.code.ensures ∙ ap code_of c.status.ensures) (refl {a = 0});
}
