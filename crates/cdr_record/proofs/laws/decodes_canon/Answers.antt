use Rattle.cdr_record.proofs.Encoded.{decodes_canon}
use Rattle.cdr_record.proofs.laws.decodes_canon.Goals as goal

pub returns : goal.returns
returns c = λ r order fits sec short. decodes_canon r order fits sec short
