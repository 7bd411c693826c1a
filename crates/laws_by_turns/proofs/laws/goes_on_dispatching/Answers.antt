use Rattle.laws_by_turns.proofs.Turns.{by_turns_more}
use Rattle.laws_by_turns.proofs.laws.goes_on_dispatching.Goals as goal

pub returns : goal.returns
returns g c t b h more all turns = by_turns_more g.H.EventHandler.means t b h more all turns
