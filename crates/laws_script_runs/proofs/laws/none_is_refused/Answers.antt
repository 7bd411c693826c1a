use Rattle.laws_script_runs.proofs.Refusing.{none_refused}
use Rattle.laws_script_runs.proofs.laws.none_is_refused.Goals as goal

pub returns : goal.returns
returns g c t idle groups journal runs room no_fault =
    none_refused g.H.EventHandler.means t idle groups journal runs room no_fault
