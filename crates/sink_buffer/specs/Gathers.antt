-- What a buffered sink stands for.
use Rattle.std.specs.Prelude.{◌≡◌, ◌≤◌, ◌+◌, ℕ, List, ◌++◌, length, take, Bool, true, false}
use Rattle.ev_base.specs.Sink.{SinkFacts}
use Rattle.sink_buffer.specs.Written.{TakesAll, BreaksOff}
use Rattle.sink_buffer.specs.declared.buffer.SinkBuffer.{SinkBuffer}

-- how many bytes are held back, and which
abbrev pub held_count : {K : Type 0} → SinkBuffer K → ℕ
held_count buffer = buffer.held

abbrev pub held_of : {K : Type 0} → SinkBuffer K → List ℕ
held_of buffer = take buffer.held buffer.bytes

-- whether a write failed
abbrev pub is_broken : {K : Type 0} → SinkBuffer K → Bool
is_broken buffer = buffer.broken

-- the sink below
abbrev pub output_of : {K : Type 0} → SinkBuffer K → K
output_of buffer = buffer.output

-- the sink took all that was put but what is held back
pub record HoldsBack (start : SinkFacts) (held put : List ℕ) (now : SinkFacts) : Type 0 where
  pub written : List ℕ
  pub takes : TakesAll start written now
  pub all : written ++ held ≡ put

-- It stands for all bytes that were put since its sink told the facts `start`: the sink took them
-- but for what is held back, or, once a write failed, a front of them.
pub record Gathers {K : Type 0} (facts : K → SinkFacts) (start : SinkFacts) (buffer : SinkBuffer K)
    (put : List ℕ) : Type 0 where
  pub whole : is_broken buffer ≡ false
      → HoldsBack start (held_of buffer) put (facts (output_of buffer))
  pub front : is_broken buffer ≡ true → BreaksOff start put (facts (output_of buffer))

-- Since these bytes were held back and the sink below was this: if there was room for what was
-- put, it is held back after them, and nothing was written.
pub record Holds {K : Type 0} (output : K) (held : List ℕ) (buffer : SinkBuffer K)
    (put : List ℕ) : Type 0 where
  pub fits : length held + length put ≤ 8192 → (held_of buffer ≡ held ++ put)
      × (output_of buffer ≡ output)

-- what was put is counted since the sink told some facts, or since it was this and these bytes were
-- held back
pub data Since (K : Type 0) : Type 0 where
  Told : SinkFacts → Since K
  Held : K → List ℕ → Since K

abbrev pub HasPut : {K : Type 0} → (K → SinkFacts) → Since K → SinkBuffer K → List ℕ → Type 0
HasPut facts (Told start) buffer put = Gathers facts start buffer put
HasPut facts (Held output held) buffer put = Holds output held buffer put
