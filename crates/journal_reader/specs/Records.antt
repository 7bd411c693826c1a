-- The numbers of a record as the code keeps them.
use Rattle.std.specs.Prelude.{◌≡◌, Option, Some, None}
use Rattle.journal_reader.specs.declared.parts.Parts.{Parts}
use Rattle.journal_reader.specs.declared.read_records.Numbers.{Numbers}
use Rattle.journal_reader.specs.Reading.{Numbers as NumbersRead, numbers_of}
use Rattle.journal_reader.specs.Parts.{left}

abbrev pub numbers_view : Numbers → NumbersRead
numbers_view n = record { kind = n.kind; pid = n.pid; sec = n.sec; usec = n.usec }

abbrev pub ReadsNumbers : Parts → Option Numbers → Parts → Type 0
ReadsNumbers old None new = numbers_of (left old) ≡ None
ReadsNumbers old (Some numbers) new = numbers_of (left old) ≡ Some (numbers_view numbers, left new)
