use Rattle.cdr_record.proofs.Spelled.{is_cut, only_cut}
use Rattle.cdr_record.proofs.laws.decode_cuts.Goals as goal

pub returns : goal.returns
returns c = λ t. (is_cut t, λ records rest cut. only_cut t records rest cut)
