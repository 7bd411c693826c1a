use Rattle.laws_by_turns.proofs.Turns.{by_turns_from_end}
use Rattle.laws_by_turns.proofs.laws.begins_by_turns.Goals as goal

pub returns : goal.returns
returns g c t h = by_turns_from_end g.H.EventHandler.means t h
