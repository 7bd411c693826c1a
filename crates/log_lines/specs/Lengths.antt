-- How long the texts of records are.
use Rattle.std.specs.Prelude.{◌≤◌, ◌+◌, ◌*◌, length}
use Rattle.std.specs.Int.{w64}
use Rattle.std.specs.Int.RustNames.{FitsSigned}
use Rattle.cdr_record.specs.declared.record.LogRecord.{LogRecord}
use Rattle.cdr_record.specs.Laws.{HasNumbersOf32Bits}
use Rattle.log_lines.specs.Texts.{record_text}

-- A record whose numbers have their widths has a text of at most four bytes for each byte of its
-- message, and 59: a minus sign and 19 digits, three separators, two numbers of at most 11, a type
-- of at most 12, a colon and a space.
abbrev pub TextsAreShort : Type 0
TextsAreShort = (r : LogRecord) → HasNumbersOf32Bits r → FitsSigned w64 r.sec
    → length (record_text r) ≤ 59 + 4 * length r.text
