use Rattle.cdr_record.specs.Grammar.{record_in}
use Rattle.cdr_record.proofs.Growing.{one_within}
use Rattle.cdr_record.proofs.Spelled.{front_spells, spelled_is_first}
use Rattle.cdr_record.proofs.laws.one_is_a_record.Goals as goal

pub returns : goal.returns
returns c = λ t n. (
  λ e. ((one_within t n e).1, (record_in t, front_spells t n e)),
  λ there. spelled_is_first t n there.1.0 there.0 there.1.1,
)
