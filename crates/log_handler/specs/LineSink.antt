-- What the sink of the server's lines stands for.
use Rattle.std.specs.Prelude.{ℕ, Bool, List}
use Rattle.ev_base.specs.Terms.{Terms}
use Rattle.ev_base.specs.Sink.{SinkFacts}
use Rattle.line_sink.specs.reactor_journal.specs.declared.entry.Entry.{Entry}
use Rattle.line_sink.specs.declared.sink.LineSink.{LineSink as SinkOf}
use Rattle.line_sink.specs.LineSink as any
use Rattle.log_handler.specs.declared.note.ServerNote.{ServerNote}
use Rattle.log_handler.specs.declared.lines.ServerLines.{ServerLines}
use Rattle.log_handler.specs.Notes.{entry_lines}

-- the sink that writes the lines of the server's notes
abbrev pub LineSink : Type 0 → Type 0
LineSink K = SinkOf K ServerLines

-- the sink below it
abbrev pub sink_of : {K : Type 0} → LineSink K → K
sink_of sink = any.sink_of sink

-- whether a write failed
abbrev pub is_broken : {K : Type 0} → LineSink K → Bool
is_broken sink = any.is_broken sink

-- how many entries it has seen, from the first on, without a failed write
abbrev pub whole_of : {K : Type 0} → LineSink K → ℕ
whole_of sink = any.whole_of sink

-- it has seen these entries, and its sink took the lines of their notes, or a front of them once a
-- write failed
abbrev pub PutsLines : {K : Type 0} → (K → SinkFacts) → Terms → LineSink K → List (Entry ServerNote)
    → Type 0
PutsLines facts t sink h = any.PutsLines entry_lines facts t sink h

-- how often its sink failed, up to the end at which counts stand still
abbrev pub line_sink_faults : {K : Type 0} → (K → SinkFacts) → LineSink K → ℕ
line_sink_faults facts sink = any.line_sink_faults facts sink
