-- The records of a piece, read one by one.
use Rattle.std.proofs.Common.{◌≡◌, ℕ, List, ◌++◌}
use Rattle.std.specs.Prelude.{option_map}
use Rattle.cdr_record.specs.declared.record.LogRecord.{LogRecord}
use Rattle.journal_reader.specs.Reading.{records_of}

-- so many records were read, and these words are left
abbrev pub GoesOn : List (List ℕ) → List LogRecord → List (List ℕ) → Type 0
GoesOn all records words = records_of all ≡ option_map (λ more. records ++ more) (records_of words)
