use Rattle.std.proofs.Common.{◌≡◌, ◌++◌, length}
use Rattle.cdr_record.specs.Decoding.{records_of, left_of}
use Rattle.cdr_record.proofs.decoder.take_records.Given as goal

-- the records so far and those of the rest are all, and what will be left is what all leaves
abbrev pub invariant-records : goal.invariant-records
invariant-records g l = record {
  records : g.L.RecordList.records l.list ++ records_of l.left
      ≡ g.L.RecordList.records l.initial.list ++ records_of l.bytes;
  left : left_of l.left ≡ left_of l.bytes;
}

abbrev pub decreases-records : goal.decreases-records
decreases-records g l = length l.left
