use Rattle.laws_script_turns.proofs.Listening.{takes_everything}
use Rattle.laws_script_turns.proofs.laws.listeners_take_all.Goals as goal

pub returns : goal.returns
returns c = takes_everything
