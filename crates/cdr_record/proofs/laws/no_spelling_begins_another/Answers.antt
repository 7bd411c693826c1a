use Rattle.cdr_record.proofs.Spelled.{none_longer}
use Rattle.cdr_record.proofs.laws.no_spelling_begins_another.Goals as goal

pub returns : goal.returns
returns c = λ f more r s sf sm. none_longer f more r s sf sm
