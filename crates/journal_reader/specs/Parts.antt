-- The parts of a text that are left to be read.
use Rattle.std.specs.Prelude.{◌≡◌, ℕ, List, Option, Some, None}
use Rattle.journal_reader.specs.declared.parts.Parts.{Parts}
use Rattle.text_parts.specs.Parts.{parts_behind}
use Rattle.journal_reader.specs.Reading.{next}

abbrev pub left : Parts → List (List ℕ)
left text = parts_behind text.separator text.rest

-- one part was read so
abbrev pub Reads : {V : Type 0} → (List ℕ → Option V) → Parts → Option V → Parts → Type 0
Reads value old None new = next value (left old) ≡ None
Reads value old (Some v) new = next value (left old) ≡ Some (v, left new)

-- some parts were read so
abbrev pub ReadsAll : {V : Type 0} → (List (List ℕ) → Option (V × List (List ℕ))) → Parts → Option V
    → Parts → Type 0
ReadsAll value old None new = value (left old) ≡ None
ReadsAll value old (Some v) new = value (left old) ≡ Some (v, left new)
