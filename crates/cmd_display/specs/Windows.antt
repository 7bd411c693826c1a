-- The bytes of an input that were read and are not cut into records yet.
use Rattle.std.specs.Prelude.{◌≡◌, ◌≤◌, ◌+◌, ℕ, true, List, [], ◌++◌, drop}
use Rattle.ev_base.specs.Source.{SourceFacts}
use Rattle.bounded_input.specs.Input.{TakesInput, IsReadToEnd}
use Rattle.bounded_input.specs.Reading.{Gave, IsTooLong, input_of, limit_of, count_of}
use Rattle.cmd_display.specs.declared.window.Window.{Window}
use Rattle.cmd_display.specs.declared.window.Filled.{Filled}
use Rattle.cmd_display.specs.declared.window.Filled.TheVariants as filled

-- the bytes that were read and are not cut yet
abbrev pub rest_of : {S : Type 0} → Window S → List ℕ
rest_of window = drop window.at window.held.items

-- since its source told these facts it gave these bytes: those that were cut, and the rest
pub record Windows {S : Type 0} (facts : S → SourceFacts) (i : SourceFacts) (window : Window S)
    (cut : List ℕ) : Type 0 where
  pub gave : Gave facts i window.input (cut ++ rest_of window)

-- what reading on did: there are more bytes, or why there are none
abbrev pub Fills : {S : Type 0} → (S → SourceFacts) → SourceFacts → List ℕ → Window S → Filled
    → Window S → Type 0
Fills facts i cut old filled.More new = Windows facts i new cut
Fills facts i cut old filled.Over new =
    IsReadToEnd (facts (input_of new.input)) × Windows facts i new cut × (rest_of new ≡ rest_of old)
Fills facts i cut old filled.Failed new =
    TakesInput (limit_of new.input) true i (facts (input_of new.input)) (cut ++ rest_of old) []
Fills facts i cut old filled.TooLong new =
    IsTooLong (limit_of new.input) i (facts (input_of new.input)) (cut ++ rest_of old)
Fills facts i cut old filled.NoMemory new =
    (more : List ℕ) × Gave facts i new.input ((cut ++ rest_of old) ++ more)

-- only bytes that are there are counted
abbrev pub Grows : {S : Type 0} → Window S → Filled → Window S → Type 0
Grows old filled.More new = 1 + count_of old.input ≤ count_of new.input
Grows old _ new = count_of old.input ≤ count_of new.input
