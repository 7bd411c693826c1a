-- The adapters over std's readers and writers.
use Rattle.std.specs.Prelude.{Bool, None}
use Rattle.ev_base.specs.Source.{SourceFacts}
use Rattle.ev_base.specs.Sink.{SinkFacts}
use Rattle.ev_base.specs.declared.standard.StdSource.{StdSource}
use Rattle.ev_base.specs.declared.standard.StdSink.{StdSink}

-- the reader within a source
abbrev pub reader_of : {R : Type 0} → StdSource R → R
reader_of source = source.inner

-- whether a read found the end
abbrev pub is_over : {R : Type 0} → StdSource R → Bool
is_over source = source.over

-- it tells how many bytes it gave, but not which
abbrev pub std_source_facts : {R : Type 0} → StdSource R → SourceFacts
std_source_facts source = record {
  faults = source.faults;
  gave = source.gave;
  over = source.over;
  bytes = None;
}

-- the writer within a sink
abbrev pub writer_of : {W : Type 0} → StdSink W → W
writer_of sink = sink.inner

-- it tells no text
abbrev pub std_sink_facts : {W : Type 0} → StdSink W → SinkFacts
std_sink_facts sink = record { faults = sink.faults; text = None }
