-- Log records that were gathered.
use Rattle.std.specs.Prelude.{List, [], ◌∷◌}
use Rattle.cdr_record.specs.declared.record.LogRecord.{LogRecord}
use Rattle.packed_records.specs.declared.gathered.Gathered.{Gathered}
use Rattle.packed_records.specs.declared.gathered.Gathered.TheVariants.{None, One, Many}

-- none, one alone, or those that are packed
abbrev pub records_of : Gathered → List LogRecord
records_of None = []
records_of (One first) = first ∷ []
records_of (Many packed) = packed
