use Rattle.std.proofs.Common.{◌<◌, length, Some, sym, ap, ◌∙◌, arith}
use Rattle.cdr_record.proofs.Growing.{one_within}
use Rattle.cdr_record.proofs.Taking.{one_fields, one_message}
use Rattle.cdr_record.proofs.Alone.{none_first_none_alone, more_behind_none_alone, one_is_alone}
use Rattle.cdr_record.proofs.one_record.only_record.Goals as goal
use Rattle.cdr_record.proofs.one_record.only_record.Goals.{in_default-via-in-One+else-size-bytes}
use Rattle.cdr_record.proofs.one_record.only_record.Goals.{in_default-via-in_default}

pub record_in-requires-clause-fields : goal.record_in-requires-clause-fields
record_in-requires-clause-fields c = one_fields _ _ (sym c.in-One.ensures)

pub record_in-requires-clause-message : goal.record_in-requires-clause-message
record_in-requires-clause-message c = one_message _ _ (sym c.in-One.ensures)

pub returns-in-One : goal.returns-in-One
returns-in-One c =
    ap Some c.record_in.ensures ∙ one_is_alone c.args.bytes.now c.in-One.size (sym c.in-One.ensures)
    (omega (arith, c.if-size-bytes.true))

pub returns-in_default : goal.returns-in_default
returns-in_default c =
    elim c.in_default.branch [
      | in_default-via-in-One+else-size-bytes w ↦
          let within = one_within c.args.bytes.now w.in-One.size (sym w.in-One.ensures) in
          let fewer : w.in-One.size < length c.args.bytes.now =
          omega (arith, within.1, w.if-size-bytes.false) in
          more_behind_none_alone c.args.bytes.now w.in-One.size (sym w.in-One.ensures) fewer
      | in_default-via-in_default w ↦ none_first_none_alone c.args.bytes.now c.first_in.result
          (sym c.first_in.ensures) w.in_default.not-One
    ]
