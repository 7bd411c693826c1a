use Rattle.laws_script_served.proofs.Following.{follows-script}
use Rattle.laws_script_served.proofs.laws.scripts_are_followed.Goals as goal

pub returns : goal.returns
returns c = follows-script _
