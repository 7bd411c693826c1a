-- What the journal of a run over a generated script comes to.
use Rattle.std.specs.Prelude.{◌≡◌, ◌≤◌, ◌<◌, ℕ, ◌*◌, false, List, ◌++◌, None}
use Rattle.std.specs.List.{list_any}
use Rattle.laws_script_complete.specs.ev_base.specs.Terms.{Terms}
use Rattle.laws_script_complete.specs.reactor_journal.specs.declared.entry.Entry.{Entry}
use Rattle.laws_script_complete.specs.reactor_model.specs.Handling.{Handling}
use Rattle.laws_script_complete.specs.log_handler.specs.declared.note.ServerNote.{ServerNote}
use Rattle.laws_script_complete.specs.event_script.specs.Script.{steps_of}
use Rattle.laws_script_complete.specs.log_lines.specs.declared.end_kind.EndKind.TheVariants
    as end
use Rattle.laws_script_complete.specs.log_lines.specs.Texts.{record_lines}
use Rattle.laws_script_complete.specs.log_lines.specs.Texts.{closing_line}
use Rattle.laws_script_complete.specs.laws_script_turns.specs.Grouped.{each_below}
use Rattle.laws_script_complete.specs.laws_script_turns.specs.Grouped.{grouped}
use Rattle.laws_script_complete.specs.laws_script_runs.specs.Connections.{HadMemory}
use Rattle.laws_script_complete.specs.laws_script_runs.specs.Laws.{RunsOver}
use Rattle.laws_script_complete.specs.laws_script_runs.specs.Runs.{is_refusal}
use Rattle.laws_script_complete.specs.reactor_model.specs.Entries.{is_fault}
use Rattle.script_generator.specs.Scripts.{generated}
use Rattle.script_generator.specs.Laws.{bytes_of_connections, connection_records}
use Rattle.run_summary.specs.declared.summary.Summary.{Summary}
use Rattle.run_summary.specs.Summaries.{line_feeds, Summarizes}

-- the summary is that of all connections of the script, their records, their bytes and their lines
pub record SumsUp (n seed : ℕ) (summary : Summary) : Type 0 where
  pub connections : summary.connections ≡ n
  pub records : summary.records ≡ 125 * n
  pub bytes : summary.bytes ≡ bytes_of_connections (steps_of (generated n seed))
  pub lines : summary.lines ≡ 126 * n

-- A run over a generated script without an idle time, in which no handler was refused and none
-- closed for want of memory, has this summary, however many workers ran it.
abbrev pub SummariesAreKnown : {H E : Type 0} → Handling H E ServerNote → Type 0
SummariesAreKnown means =
    (t : Terms) (n seed : ℕ) (journal : List (Entry ServerNote)) (summary : Summary) → 1 ≤ n
    → n ≤ 1000 → RunsOver means t None (generated n seed) journal
    → list_any is_refusal journal ≡ false → HadMemory journal → Summarizes summary journal
    → SumsUp n seed summary

-- None is refused if there is room for all connections beside the acceptor, and the net took
-- each end in.
abbrev pub FullRunsAreKnown : {H E : Type 0} → Handling H E ServerNote → Type 0
FullRunsAreKnown means =
    (t : Terms) (n seed : ℕ) (journal : List (Entry ServerNote)) (summary : Summary) → 1 ≤ n
    → n ≤ 1000 → RunsOver means t None (generated n seed) journal
    → n < t.most → list_any is_fault journal ≡ false → HadMemory journal
    → Summarizes summary journal → SumsUp n seed summary

-- The grouped text of a generated script: of each connection the lines of its records, and `end` as
-- its closing word; in all 126 lines for each connection.
pub record HasGroupedText (n seed : ℕ) : Type 0 where
  pub text : grouped (steps_of (generated n seed))
      ≡ each_below n (λ c. record_lines c (connection_records seed c) ++ closing_line c end.End)
  pub lines : line_feeds (grouped (steps_of (generated n seed))) ≡ 126 * n

abbrev pub GroupedTextsAreKnown : Type 0
GroupedTextsAreKnown = (n seed : ℕ) → 1 ≤ n → n ≤ 1000 → HasGroupedText n seed
