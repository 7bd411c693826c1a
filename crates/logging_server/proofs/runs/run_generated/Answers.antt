use Rattle.std.proofs.Common.{◌∙◌, ap, refl}
use Rattle.exit_status.specs.Statuses.{code_of}
use Rattle.logging_server.proofs.Lefts.{with-codes}
use Rattle.logging_server.proofs.runs.run_generated.Goals as goal

pub returns : goal.returns
returns g c = record {
  generated = c.generate-end.result;
  run = c.generate-end.ensures.run;
  written = c.generate-end.ensures.written;
  known = c.generate-end.ensures.known;
  is = with-codes _ _ _ (c.code.ensures ∙ ap code_of c.status.ensures) (refl {a = 0});
}
