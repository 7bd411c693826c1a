use Rattle.laws_script_complete.proofs.Steps.{no_step}
use Rattle.laws_script_complete.proofs.laws.no_step_is_left.Goals as goal

pub returns : goal.returns
returns g c t idle groups journal runs = no_step g.H.EventHandler.means t idle groups journal runs
