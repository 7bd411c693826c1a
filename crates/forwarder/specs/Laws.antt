-- The laws of what is forwarded.
use Rattle.std.specs.Prelude.{◌≡◌, ◌≤◌, ◌^◌, ◌↔◌, ℕ, true, List, length}
use Rattle.std.specs.Int.{w32}
use Rattle.std.specs.Int.RustNames.{FitsSigned}
use Rattle.ev_base.specs.Counts.{Counts}
use Rattle.cdr_record.specs.declared.record.LogRecord.{LogRecord}
use Rattle.cdr_record.specs.Decoding.{decode}
use Rattle.forwarder.specs.Feeding.{feed, fits_1}

-- a record is sent in version 1 exactly if its seconds are a number of 32 bits
abbrev pub ShortSecondsFit : Type 0
ShortSecondsFit = (r : LogRecord) → (fits_1 r ≡ true) ↔ FitsSigned w32 r.sec

-- of as many bytes as are read at most, the totals of records and of bytes do not come to the end
-- of their 64 bits
abbrev pub TotalsAreExact : Type 0
TotalsAreExact = (taken : List ℕ) (records bytes : ℕ) → length taken ≤ 2 ^ 40
    → Counts records (length (decode taken).records) → Counts bytes (length (feed taken))
    → (records ≡ length (decode taken).records) × (bytes ≡ length (feed taken))
