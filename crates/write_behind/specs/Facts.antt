-- What a sink that writes behind tells.
use Rattle.std.specs.Prelude.{ℕ, zero, suc, ◌+◌, ◌-◌, ◌^◌, min, List, ◌++◌, Option, Some, None}
use Rattle.ev_base.specs.Sink.{SinkFacts}

-- what it took: all that was put, and how many writes were refused
pub record Taken : Type 0 where
  pub put : List ℕ
  pub refused : ℕ

-- a text that grew by these bytes, if it is told
abbrev pub grown : Option (List ℕ) → List ℕ → Option (List ℕ)
grown None bytes = None
grown (Some text) bytes = Some (text ++ bytes)

-- a count after so many more
abbrev pub counted_on : ℕ → ℕ → ℕ
counted_on n zero = n
counted_on n (suc more) = min (n + suc more) (2 ^ 64 - 1)

-- Since the sink below told the facts `start`, its text grew by all that was put, and each refused
-- write is counted.
abbrev pub behind_facts : SinkFacts → Taken → SinkFacts
behind_facts start taken = record {
  faults = counted_on start.faults taken.refused;
  text = grown start.text taken.put;
}
