use Rattle.cdr_record.proofs.Growing.{one_stays, bad_stays}
use Rattle.cdr_record.proofs.laws.first_stays.Goals as goal

pub returns : goal.returns
returns c = λ t more. (λ n e. one_stays t more n e, λ w e. bad_stays t more w e)
