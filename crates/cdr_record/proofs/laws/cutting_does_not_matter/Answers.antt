use Rattle.std.proofs.Common.{sym, ap, ◌∙◌}
use Rattle.cdr_record.specs.Decoding.{records_of}
use Rattle.cdr_record.proofs.Runs.{gives_all_records, same_state}
use Rattle.cdr_record.proofs.laws.cutting_does_not_matter.Goals as goal

pub returns : goal.returns
returns c = λ pieces others records records' decoder decoder' run run' same.
    let one = gives_all_records pieces records decoder run in
    let other = gives_all_records others records' decoder' run' in
    (one.0 ∙ ap records_of same ∙ sym other.0, same_state _ _ _ one.1 (rw same other.1))
