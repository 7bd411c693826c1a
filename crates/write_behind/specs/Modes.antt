-- Who has the writer.
use Rattle.std.specs.Prelude.{◌≡◌, false, Option, Some, None}
use Rattle.write_behind.specs.Writers.{WriterState}
use Rattle.write_behind.specs.declared.mode.Mode.{Mode}
use Rattle.write_behind.specs.declared.mode.Mode.TheVariants.{Alone, Helped}

-- the caller's writer, if it has it
abbrev pub writer_of : {K S : Type 0} → Mode K S → Option (WriterState K)
writer_of (Alone writer) = Some writer
writer_of (Helped writer helper) = writer

-- it has it, and a write failed
abbrev pub HasFailed : {K : Type 0} → Option (WriterState K) → Type 0
HasFailed None = ⊥
HasFailed (Some writer) = writer.whole ≡ false
