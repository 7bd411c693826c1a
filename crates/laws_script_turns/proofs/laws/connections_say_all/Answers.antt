use Rattle.laws_script_turns.proofs.Saying.{says_everything}
use Rattle.laws_script_turns.proofs.laws.connections_say_all.Goals as goal

pub returns : goal.returns
returns c = says_everything
