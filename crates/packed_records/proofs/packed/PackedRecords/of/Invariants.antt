use Rattle.std.proofs.Common.{◌≡◌, take}
use Rattle.packed_records.proofs.packed.PackedRecords.of.Given as goal

-- the records so far
abbrev pub invariant-loop-entry : goal.invariant-loop-entry
invariant-loop-entry l = l.packed ≡ take l.entry-index l.records
