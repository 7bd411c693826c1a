-- The sink in memory.
use Rattle.std.specs.Prelude.{ℕ, List, Some}
use Rattle.ev_base.specs.Sink.{SinkFacts}
use Rattle.ev_base.specs.declared.memory.MemSink.{MemSink}

-- how many bytes it takes in all
abbrev pub limit_of : MemSink → ℕ
limit_of sink = sink.limit

-- what it took so far
abbrev pub taken_of : MemSink → List ℕ
taken_of sink = sink.bytes.items

-- it tells its text
abbrev pub mem_sink_facts : MemSink → SinkFacts
mem_sink_facts sink = record { faults = sink.faults; text = Some sink.bytes.items }
