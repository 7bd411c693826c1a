use Rattle.laws_gen.proofs.Grouped.{has_grouped_text}
use Rattle.laws_gen.proofs.laws.grouped_texts_are_known.Goals as goal

pub returns : goal.returns
returns c = has_grouped_text
