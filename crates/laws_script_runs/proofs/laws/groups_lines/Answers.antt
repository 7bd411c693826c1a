use Rattle.laws_script_runs.proofs.Second.{second_law}
use Rattle.laws_script_runs.proofs.laws.groups_lines.Goals as goal

pub returns : goal.returns
returns g c t groups journal runs no_timer no_refusal memory =
    second_law g.H.EventHandler.means t groups journal runs no_refusal memory
