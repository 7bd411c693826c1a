use Rattle.ace7_input.proofs.Widening.{has_same_length}
use Rattle.ace7_input.proofs.laws.has_same_length.Goals as goal

pub returns : goal.returns
returns c = has_same_length
