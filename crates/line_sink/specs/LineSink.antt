-- What a sink of lines stands for.
use Rattle.std.specs.Prelude.{◌≡◌, ◌≤◌, ◌^◌, ◌-◌, ℕ, min, Bool, true, false, List, length, take}
use Rattle.std.specs.Prelude.{Some, flat_map}
use Rattle.ev_base.specs.Terms.{Terms}
use Rattle.ev_base.specs.Sink.{SinkFacts}
use Rattle.sink_buffer.specs.Written.{IsPrefixOf}
use Rattle.sink_buffer.specs.Direct.{HasWritten, output_of, is_broken as output_broke}
use Rattle.reactor_model.specs.reactor_journal.specs.declared.entry.Entry.{Entry}
use Rattle.line_sink.specs.declared.sink.LineSink.{LineSink}

-- the sink below it
abbrev pub sink_of : {K P : Type 0} → LineSink K P → K
sink_of sink = output_of sink.output

-- whether a write failed
abbrev pub is_broken : {K P : Type 0} → LineSink K P → Bool
is_broken sink = output_broke sink.output

-- how many entries it has seen, from the first on, without a failed write
abbrev pub whole_of : {K P : Type 0} → LineSink K P → ℕ
whole_of sink = sink.whole

-- It has seen these entries, of which each has these lines: since its sink told what it tells at
-- the start, the sink took the lines of the entries, in order; or, once a write failed, it took a
-- front of them, in which are all lines of the entries that it saw before that. The text and the
-- count of faults at the start are those of the terms, if these have them.
pub record PutsLines {N K P : Type 0} (lines : Entry N → List ℕ) (facts : K → SinkFacts) (t : Terms)
    (sink : LineSink K P) (h : List (Entry N)) : Type 0 where
  pub start : SinkFacts
  pub opening : (text : List ℕ) → t.opening ≡ Some text → start.text ≡ Some text
  pub faults : (n : ℕ) → t.output_faults ≡ Some n → start.faults ≡ n
  pub put : HasWritten facts start sink.output (flat_map lines h)
  pub all_whole : is_broken sink ≡ false → whole_of sink ≡ length h
  pub seen : whole_of sink ≤ length h
  pub kept : (broken : is_broken sink ≡ true)
      → IsPrefixOf (flat_map lines (take (whole_of sink) h)) (put.front broken).front

-- how often its sink failed, up to the end at which counts stand still
abbrev pub line_sink_faults : {K P : Type 0} → (K → SinkFacts) → LineSink K P → ℕ
line_sink_faults facts sink = min ((facts (sink_of sink)).faults) (2 ^ 64 - 1)
