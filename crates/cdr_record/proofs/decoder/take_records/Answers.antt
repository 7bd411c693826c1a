use Rattle.std.proofs.Common.{arith, rules, sym, ap, ◌∙◌, length, ◌≤◌, ◌++◌, append-nil}
use Rattle.std.proofs.lemmas.List.{take_rest, length-drop}
use Rattle.cdr_record.specs.Grammar.{first_of}
use Rattle.cdr_record.proofs.Growing.{one_within}
use Rattle.cdr_record.proofs.Cutting.{steps_over}
use Rattle.cdr_record.proofs.Taking.{one_fields, one_message, one_more_record, none_first}
use Rattle.cdr_record.proofs.decoder.take_records.Goals as goal

pub record_in-requires-clause-fields : goal.record_in-requires-clause-fields
record_in-requires-clause-fields g c = one_fields _ _ (sym c.in-One.ensures)

pub record_in-requires-clause-message : goal.record_in-requires-clause-message
record_in-requires-clause-message g c = one_message _ _ (sym c.in-One.ensures)

pub slice_bounds-left-count : goal.slice_bounds-left-count
slice_bounds-left-count g c = (one_within _ _ (sym c.in-One.ensures)).1

pub slice_bounds-left-start : goal.slice_bounds-left-start
slice_bounds-left-start g c =
    let within : c.in-One.size ≤ length c.records.left.now =
    (one_within _ _ (sym c.in-One.ensures)).1 in search rules

pub records-smaller : goal.records-smaller
records-smaller g c =
    let within = one_within _ _ (sym c.in-One.ensures) in
    rw take_rest (omega (arith, within.0, within.1, length-drop c.in-One.size c.records.left.now))

pub records-preserved : goal.records-preserved
records-preserved g c = record {
  records = rw (take_rest, c.in_ok-append-in-One.ensures.ok)
      (one_more_record _ _ _ _ _ (sym c.in-One.ensures) c.record_in.ensures
      c.records.invariant.records);
  left = rw take_rest (sym (steps_over _ _ (sym c.in-One.ensures)).left ∙ c.records.invariant.left);
}

pub returns-in_default : goal.returns-in_default
returns-in_default g c =
    let end = none_first c.records.left.now c.first_in.result c.first_in.ensures
    c.in_default.not-One in
    let left = sym end.left ∙ c.records.invariant.left in
    record {
      left = left;
      first = c.first_in.ensures ∙ ap first_of left;
      records = sym (append-nil (g.L.RecordList.records c.records.list))
          ∙ ap (λ rs. g.L.RecordList.records c.records.list ++ rs) (sym end.records)
          ∙ c.records.invariant.records;
    }
