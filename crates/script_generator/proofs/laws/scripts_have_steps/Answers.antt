use Rattle.script_generator.proofs.Connections.{has_steps}
use Rattle.script_generator.proofs.laws.scripts_have_steps.Goals as goal

pub returns : goal.returns
returns c = has_steps
