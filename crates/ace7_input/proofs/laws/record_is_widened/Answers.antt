use Rattle.ace7_input.proofs.Widening.{record_is_widened}
use Rattle.ace7_input.proofs.laws.record_is_widened.Goals as goal

pub returns : goal.returns
returns c = record_is_widened
