use Rattle.laws_script_taken.proofs.Connections.{connections_taken}
use Rattle.laws_script_taken.proofs.laws.connections_are_taken.Goals as goal

pub returns : goal.returns
returns g c t idle groups journal runs conn accepted =
    connections_taken g.H.EventHandler.means t idle groups journal runs conn accepted
