use Rattle.laws_script_complete.proofs.Closing.{took_all}
use Rattle.laws_script_complete.proofs.laws.all_bytes_are_taken.Goals as goal

pub returns : goal.returns
returns g c t idle groups journal runs before after handle conn word is =
    took_all g.H.EventHandler.means t idle groups journal runs before after handle conn word is
