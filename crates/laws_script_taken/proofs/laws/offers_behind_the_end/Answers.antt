use Rattle.laws_script_taken.proofs.Offered.{offers_each}
use Rattle.laws_script_taken.proofs.laws.offers_behind_the_end.Goals as goal

pub returns : goal.returns
returns g c t run closing how = offers_each g.H.EventHandler.means t run closing how
