use Rattle.laws_by_turns.proofs.Turns.{by_turns_block}
use Rattle.laws_by_turns.proofs.laws.goes_on_by_turns.Goals as goal

pub returns : goal.returns
returns g c t b h more first each turns =
    by_turns_block g.H.EventHandler.means t b h more first each turns
