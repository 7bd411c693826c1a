use Rattle.cdr_record.proofs.Runs.{gives_all_records}
use Rattle.cdr_record.proofs.laws.gives_all.Goals as goal

pub returns : goal.returns
returns c = λ pieces records decoder run. gives_all_records pieces records decoder run
