use Rattle.cdr_record.proofs.Encoded.{decodes_canon_2}
use Rattle.cdr_record.proofs.laws.decodes_canon_2.Goals as goal

pub returns : goal.returns
returns c = λ r order fits sec short. decodes_canon_2 r order fits sec short
