-- What a sink of bytes tells, and what a write does to it.
use Rattle.std.specs.Prelude.{◌≡◌, ◌≤◌, ℕ, List, ◌++◌, length, take, Option, Some, None}
use Rattle.ev_base.specs.Counts.{counted}
use Rattle.ev_base.specs.declared.sink.Wrote.{Wrote}
use Rattle.ev_base.specs.declared.sink.Wrote.TheVariants.{Bytes, Failed}

pub record SinkFacts : Type 0 where
  -- how often a write failed
  pub faults : ℕ
  -- all that was taken so far, if it is told
  pub text : Option (List ℕ)

-- if the text is told, it grew by these bytes
abbrev pub GrowsBy : Option (List ℕ) → List ℕ → Option (List ℕ) → Type 0
GrowsBy None bytes None = Unit {0}
GrowsBy None bytes (Some new) = ⊥
GrowsBy (Some old) bytes None = ⊥
GrowsBy (Some old) bytes (Some new) = new ≡ old ++ bytes

-- a write took the first n bytes of a piece
pub record TakesBytes (old : SinkFacts) (piece : List ℕ) (n : ℕ) (new : SinkFacts) : Type 0 where
  pub some : 1 ≤ n
  pub within : n ≤ length piece
  pub text : GrowsBy old.text (take n piece) new.text
  pub faults : new.faults ≡ old.faults

-- a write failed: it is counted once, and nothing was taken
pub record FailsToWrite (old new : SinkFacts) : Type 0 where
  pub rose : new.faults ≡ counted old.faults
  pub text : new.text ≡ old.text

-- what a write of a piece does, by its answer
abbrev pub Writes : SinkFacts → List ℕ → Wrote → SinkFacts → Type 0
Writes old piece (Bytes n) new = TakesBytes old piece n new
Writes old piece Failed new = FailsToWrite old new
