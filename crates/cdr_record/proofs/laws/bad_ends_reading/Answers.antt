use Rattle.cdr_record.proofs.Runs.{bad_ends}
use Rattle.cdr_record.proofs.laws.bad_ends_reading.Goals as goal

pub returns : goal.returns
returns c = λ t more at e. bad_ends t more at e
