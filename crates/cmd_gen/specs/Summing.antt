-- How a run over a generated script is summed up. The output told the facts o before and tells p
-- now.
use Rattle.std.specs.Prelude.{◌≡◌, ◌≤◌, ℕ, ◌*◌, List}
use Rattle.ev_base.specs.Sink.{SinkFacts}
use Rattle.cmd_replay.specs.reactor_journal.specs.declared.entry.Entry.{Entry}
use Rattle.cmd_replay.specs.log_handler.specs.declared.note.ServerNote.{ServerNote}
use Rattle.script_net.specs.event_script.specs.Script.{steps_of}
use Rattle.script_generator.specs.Laws.{bytes_of_connections}
use Rattle.script_generator.specs.Scripts.{generated}
use Rattle.run_summary.specs.Summaries.{told, connections_in, records_in, bytes_in, lines_in}
use Rattle.run_summary.specs.Summaries.{four_lines}
use Rattle.cmd_replay.specs.server_run.specs.declared.ending.Ending.{Ending}
use Rattle.cmd_replay.specs.server_run.specs.declared.ending.Ending.TheVariants as ending
use Rattle.cmd_replay.specs.sink_buffer.specs.Written.{TakesAll, BreaksOff}
use Rattle.cmd_gen.specs.declared.ends.GenerateEnd.{GenerateEnd}
use Rattle.cmd_gen.specs.declared.ends.GenerateEnd.TheVariants as end

-- the lines of the summary of a journal
abbrev pub summary_lines : List (Entry ServerNote) → List ℕ
summary_lines journal = four_lines (told (connections_in journal)) (told (records_in journal))
    (told (bytes_in journal)) (told (lines_in journal))

-- those of a run that took all that the script of n connections and a seed has: its connections,
-- 125 records of each, its bytes, and a line for each record and for the closing of each connection
abbrev pub full_lines : ℕ → ℕ → List ℕ
full_lines n seed =
    four_lines n (125 * n) (bytes_of_connections (steps_of (generated n seed))) (126 * n)

-- What was written of some lines, by how it ended: all of them, a front of them if a write
-- failed, and else nothing.
abbrev pub LeavesText : GenerateEnd → SinkFacts → List ℕ → SinkFacts → Type 0
LeavesText end.Done o text p = TakesAll o text p
LeavesText end.WriteFault o text p = BreaksOff o text p
LeavesText end.NoMemory o text p = p ≡ o
LeavesText end.VolumeFault o text p = p ≡ o

-- How it ended, by how its run did, which handed so many entries over: a summary is made if
-- nothing could be reported any more, and of a whole journal alone.
abbrev pub EndsSummary : GenerateEnd → Ending → ℕ → Type 0
EndsSummary end.Done how first = (how ≡ ending.Over) × (first ≡ 0)
EndsSummary end.WriteFault how first = (how ≡ ending.Over) × (first ≡ 0)
EndsSummary end.NoMemory how first =
    (how ≡ ending.Over → 1 ≤ first) × (how ≡ ending.VolumeFault → ⊥)
EndsSummary end.VolumeFault how first = how ≡ ending.VolumeFault

-- how it ended if a run ended so, which left these entries and handed so many over, and what was
-- written of their summary
pub record WritesSummary (how : Ending) (first : ℕ) (o : SinkFacts)
    (entries : List (Entry ServerNote)) (ended : GenerateEnd) (p : SinkFacts) : Type 0 where
  pub ends : EndsSummary ended how first
  pub writes : LeavesText ended o (summary_lines entries) p
