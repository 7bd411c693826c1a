use Rattle.program_words.proofs.Keeping.{others_keep_all}
use Rattle.program_words.proofs.laws.others_keep_all.Goals as goal

pub returns : goal.returns
returns c = others_keep_all
