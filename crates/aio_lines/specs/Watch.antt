-- What the watch that writes the lines of connections stands for.
use Rattle.std.specs.Prelude.{ℕ, Bool, List}
use Rattle.ev_base.specs.Terms.{Terms}
use Rattle.ev_base.specs.Sink.{SinkFacts}
use Rattle.reactor_model.specs.reactor_journal.specs.declared.entry.Entry.{Entry}
use Rattle.line_sink.specs.declared.sink.LineSink.{LineSink}
use Rattle.line_sink.specs.LineSink as any
use Rattle.proactor.specs.declared.service.AioNote.{AioNote}
use Rattle.aio_lines.specs.declared.watch.AioLines.{AioLines}
use Rattle.aio_lines.specs.Lines.{entry_lines}

-- the watch that writes the lines of connections
abbrev pub ConnectionLines : Type 0 → Type 0
ConnectionLines K = LineSink K AioLines

-- the sink below it
abbrev pub sink_of : {K : Type 0} → ConnectionLines K → K
sink_of sink = any.sink_of sink

-- whether a write failed
abbrev pub is_broken : {K : Type 0} → ConnectionLines K → Bool
is_broken sink = any.is_broken sink

-- how many entries it has seen, from the first on, without a failed write
abbrev pub whole_of : {K : Type 0} → ConnectionLines K → ℕ
whole_of sink = any.whole_of sink

-- it has seen these entries, and its sink took their lines, or a front of them once a write failed
abbrev pub PutsLines : {K : Type 0} → (K → SinkFacts) → Terms → ConnectionLines K
    → List (Entry AioNote) → Type 0
PutsLines facts t sink h = any.PutsLines entry_lines facts t sink h

-- how often its sink failed, up to the end at which counts stand still
abbrev pub watch_faults : {K : Type 0} → (K → SinkFacts) → ConnectionLines K → ℕ
watch_faults facts sink = any.line_sink_faults facts sink
