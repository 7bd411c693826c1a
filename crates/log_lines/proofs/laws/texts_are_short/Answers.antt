use Rattle.log_lines.proofs.Lengths.{texts_short}
use Rattle.log_lines.proofs.laws.texts_are_short.Goals as goal

pub returns : goal.returns
returns c = texts_short
