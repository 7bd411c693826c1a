use Rattle.laws_gen.proofs.Read.{is_read_as}
use Rattle.laws_gen.proofs.laws.generated_texts_are_read.Goals as goal

pub returns : goal.returns
returns c = is_read_as
