-- Texts that a sink took, whole or in part.
use Rattle.std.specs.Prelude.{◌≡◌, ℕ, List, ◌++◌, Bool, true, false, Some}
use Rattle.ev_base.specs.Counts.{counted}
use Rattle.ev_base.specs.Sink.{SinkFacts, GrowsBy}

-- the first list begins the second
abbrev pub IsPrefixOf : List ℕ → List ℕ → Type 0
IsPrefixOf front whole = (rest : List ℕ) × (whole ≡ front ++ rest)

-- a sink took all of some bytes, without a fault
pub record TakesAll (old : SinkFacts) (bytes : List ℕ) (new : SinkFacts) : Type 0 where
  pub text : GrowsBy old.text bytes new.text
  pub faults : new.faults ≡ old.faults

-- A sink took the front of some bytes, and then failed. One write failed and no more: so none was
-- tried after it.
pub record BreaksOff (old : SinkFacts) (bytes : List ℕ) (new : SinkFacts) : Type 0 where
  pub front : List ℕ
  pub is_front : IsPrefixOf front bytes
  pub text : GrowsBy old.text front new.text
  pub rose : new.faults ≡ counted old.faults

-- some bytes were written, all of them or, if a write failed, a front of them
abbrev pub WritesAll : SinkFacts → List ℕ → Bool → SinkFacts → Type 0
WritesAll old bytes true new = TakesAll old bytes new
WritesAll old bytes false new = BreaksOff old bytes new

-- If a sink told its text, that is the text at the start and after it all of these bytes. No
-- write failed. (A sink that did not tell its text at the start may do so now.)
pub record TookAll (old : SinkFacts) (bytes : List ℕ) (new : SinkFacts) : Type 0 where
  pub text : (start : List ℕ) → old.text ≡ Some start → new.text ≡ Some (start ++ bytes)
  pub faults : new.faults ≡ old.faults

-- If a sink told its text, that is the text at the start and after it a front of these bytes.
-- Then one write failed, and none was tried after it.
pub record TookFront (old : SinkFacts) (bytes : List ℕ) (new : SinkFacts) : Type 0 where
  pub front : List ℕ
  pub is_front : IsPrefixOf front bytes
  pub text : (start : List ℕ) → old.text ≡ Some start → new.text ≡ Some (start ++ front)
  pub one_failed : new.faults ≡ counted old.faults
