-- The text of the lines of a piece's records.
use Rattle.std.specs.Prelude.{◌≡◌, ℕ, List, [], ◌∷◌, ⊤, Option, None, Some, IfSome}
use Rattle.std.specs.Global.{Box}
use Rattle.cdr_record.specs.declared.record.LogRecord.{LogRecord}
use Rattle.log_lines.specs.Texts.{record_lines}
use Rattle.log_handler.specs.declared.logged.Content.{Content}
use Rattle.log_handler.specs.declared.logged.Content.TheVariants.{One, Many}

-- a text beside the number of a connection is that of the lines of these records for it
abbrev pub IsTextOf : Option ℕ → List ℕ → List LogRecord → Type 0
IsTextOf conn text records = IfSome conn (λ number. text ≡ record_lines number records)

-- the records of what is kept: one alone, or those that are packed
abbrev pub records_of : Content → List LogRecord
records_of (One first) = first ∷ []
records_of (Many records number text) = records

-- the text that stands beside packed records is that of their lines
abbrev pub HasItsText : Content → Type 0
HasItsText (One first) = ⊤
HasItsText (Many records number text) = IsTextOf number text.items records

-- the records of what is kept, or none
abbrev pub records_in : Option (Box Content) → List LogRecord
records_in None = []
records_in (Some content) = records_of content.value
