-- What a sink stands for that writes what is put at once.
use Rattle.std.specs.Prelude.{◌≡◌, ℕ, List, Bool, true, false}
use Rattle.ev_base.specs.Sink.{SinkFacts}
use Rattle.sink_buffer.specs.Written.{TakesAll, BreaksOff}
use Rattle.sink_buffer.specs.declared.direct.DirectSink.{DirectSink}

-- whether a write failed
abbrev pub is_broken : {K : Type 0} → DirectSink K → Bool
is_broken sink = sink.broken

-- the sink below
abbrev pub output_of : {K : Type 0} → DirectSink K → K
output_of sink = sink.output

-- It stands for all bytes that were put since its sink told the facts `start`: the sink took them,
-- or, once a write failed, a front of them.
pub record HasWritten {K : Type 0} (facts : K → SinkFacts) (start : SinkFacts) (sink : DirectSink K)
    (put : List ℕ) : Type 0 where
  pub whole : is_broken sink ≡ false → TakesAll start put (facts (output_of sink))
  pub front : is_broken sink ≡ true → BreaksOff start put (facts (output_of sink))
