use Rattle.laws_script_served.proofs.Following.{runs-over}
use Rattle.laws_script_served.proofs.laws.scripts_run_over.Goals as goal

pub returns : goal.returns
returns c = runs-over _
