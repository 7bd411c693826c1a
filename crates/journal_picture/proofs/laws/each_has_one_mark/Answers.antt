use Rattle.journal_picture.proofs.Marking.{marks_each}
use Rattle.journal_picture.proofs.laws.each_has_one_mark.Goals as goal

pub returns : goal.returns
returns c = marks_each
