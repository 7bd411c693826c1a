use Rattle.laws_script_complete.proofs.Taking.{all_accepted}
use Rattle.laws_script_complete.proofs.laws.all_are_accepted.Goals as goal

pub returns : goal.returns
returns g c t idle groups journal runs =
    all_accepted g.H.EventHandler.means t idle groups journal runs
