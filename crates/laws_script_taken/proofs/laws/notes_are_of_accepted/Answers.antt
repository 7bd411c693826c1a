use Rattle.laws_script_taken.proofs.Accepted.{accepted_before}
use Rattle.laws_script_taken.proofs.laws.notes_are_of_accepted.Goals as goal

pub returns : goal.returns
returns g c t idle groups journal runs conn before e after is mine =
    accepted_before g.H.EventHandler.means t idle groups journal runs conn before e after is mine
