-- What a journal's sink stands for.
use Rattle.std.specs.Prelude.{◌≡◌, ◌≤◌, ◌^◌, ◌-◌, ℕ, min, Bool, true, false, if◌then◌else◌, List}
use Rattle.std.specs.Prelude.{[], ◌∷◌, ◌++◌, length, take, Some}
use Rattle.ev_base.specs.Terms.{Terms}
use Rattle.ev_base.specs.Sink.{SinkFacts}
use Rattle.sink_buffer.specs.Written.{IsPrefixOf}
use Rattle.sink_buffer.specs.Gathers.{Gathers, held_of, output_of, is_broken as output_broke}
use Rattle.reactor_model.specs.reactor_journal.specs.declared.entry.Entry.{Entry}
use Rattle.log_handler.specs.declared.note.ServerNote.{ServerNote}
use Rattle.journal_text.specs.declared.journal_sink.JournalSink.{JournalSink}
use Rattle.journal_text.specs.Texts.{entry_line, most_line, journal_text}

-- the sink below it
abbrev pub sink_of : {K : Type 0} → JournalSink K → K
sink_of sink = output_of sink.output

-- whether a write failed
abbrev pub is_broken : {K : Type 0} → JournalSink K → Bool
is_broken sink = output_broke sink.output

-- how many entries it has seen, from the first on, without a failed write
abbrev pub whole_of : {K : Type 0} → JournalSink K → ℕ
whole_of sink = sink.whole

-- the text of a journal so far: nothing before its first entry
abbrev pub text_so_far : ℕ → List (Entry ServerNote) → List ℕ
text_so_far most [] = []
text_so_far most (e ∷ rest) = journal_text most (e ∷ rest)

-- whether the line `most N` was put
abbrev pub has_begun : List (Entry ServerNote) → Bool
has_begun [] = false
has_begun (e ∷ rest) = true

-- what the line of one more entry is, after the first line if that was not put
abbrev pub next_text : ℕ → Bool → Entry ServerNote → List ℕ
next_text most begun e = if begun then entry_line e else most_line most ++ entry_line e

-- It has seen these entries: since its sink told what it tells at the start, the sink took the text
-- of the journal so far; or, once a write failed, a front of it, in which is the text of the
-- entries that it saw before that. The number of its first line, the text and the count of faults
-- at the start are those of the terms, if these have them.
pub record PutsJournal {K : Type 0} (facts : K → SinkFacts) (t : Terms) (sink : JournalSink K)
    (h : List (Entry ServerNote)) : Type 0 where
  pub start : SinkFacts
  pub opening : (text : List ℕ) → t.opening ≡ Some text → start.text ≡ Some text
  pub faults : (n : ℕ) → t.output_faults ≡ Some n → start.faults ≡ n
  pub most : sink.most ≡ t.most
  pub put : Gathers facts start sink.output (text_so_far t.most h)
  pub held : held_of sink.output ≡ []
  pub begun : is_broken sink ≡ false → sink.begun ≡ has_begun h
  pub all_whole : is_broken sink ≡ false → whole_of sink ≡ length h
  pub seen : whole_of sink ≤ length h
  pub kept : (broken : is_broken sink ≡ true)
      → IsPrefixOf (text_so_far t.most (take (whole_of sink) h)) (put.front broken).front

-- how often its sink failed, up to the end at which counts stand still
abbrev pub journal_sink_faults : {K : Type 0} → (K → SinkFacts) → JournalSink K → ℕ
journal_sink_faults facts sink = min ((facts (sink_of sink)).faults) (2 ^ 64 - 1)
