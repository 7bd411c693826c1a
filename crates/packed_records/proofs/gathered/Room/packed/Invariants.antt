use Rattle.std.proofs.Common.{◌≡◌, map, take}
use Rattle.cdr_record.specs.Borrowed.{owned}
use Rattle.packed_records.proofs.gathered.Room.packed.Given as goal

-- the records so far
abbrev pub invariant-loop-entry : goal.invariant-loop-entry
invariant-loop-entry l = l.packed ≡ map owned (take l.entry-index l.entries)
