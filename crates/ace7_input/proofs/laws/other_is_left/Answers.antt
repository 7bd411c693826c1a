use Rattle.ace7_input.proofs.Widening.{other_is_left}
use Rattle.ace7_input.proofs.laws.other_is_left.Goals as goal

pub returns : goal.returns
returns c = other_is_left
