use Rattle.laws_script_turns.proofs.Saying.{takes_all_bytes}
use Rattle.laws_script_turns.proofs.laws.connections_take_all.Goals as goal

pub returns : goal.returns
returns c id idle steps moment had p orderly course ends =
    takes_all_bytes id idle steps moment had p orderly course ends
