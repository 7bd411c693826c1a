use Rattle.std.proofs.Common.{◌∙◌, ap}
use Rattle.exit_status.specs.Statuses.{code_of, number_of}
use Rattle.logging_server.proofs.Lefts.{with-codes}
use Rattle.logging_server.proofs.runs.run_one.Goals as goal

pub returns : goal.returns
returns g c = record {
  ran = c.one-end.result;
  runs = c.one-end.ensures;
  is = with-codes _ _ _ (c.code.ensures ∙ ap code_of c.status-status.ensures)
      (c.number.ensures ∙ ap number_of c.status-status.ensures);
}
