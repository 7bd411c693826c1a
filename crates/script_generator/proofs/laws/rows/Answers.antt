use Rattle.script_generator.proofs.Rows.{has_rows}
use Rattle.script_generator.proofs.laws.rows.Goals as goal

pub returns : goal.returns
returns c = has_rows
