use Rattle.laws_script_served.proofs.Following.{ends-over}
use Rattle.laws_script_served.proofs.laws.scripts_end_over.Goals as goal

pub returns : goal.returns
returns c = ends-over _
