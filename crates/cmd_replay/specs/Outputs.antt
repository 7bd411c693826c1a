-- What a run over a script writes.
use Rattle.std.specs.Prelude.{◌≡◌, ℕ, List}
use Rattle.ev_base.specs.Sink.{SinkFacts}
use Rattle.server_run.specs.sink_buffer.specs.Written.{TookAll, TookFront}
use Rattle.server_run.specs.reactor_journal.specs.declared.entry.Entry.{Entry}
use Rattle.server_run.specs.log_handler.specs.declared.note.ServerNote.{ServerNote}
use Rattle.server_run.specs.log_handler.specs.Notes.{journal_lines}
use Rattle.journal_text.specs.JournalSink.{text_so_far}
use Rattle.grouped_lines.specs.laws_script_runs.specs.Connections.{lines_by_connection}
use Rattle.cmd_line.specs.declared.options.Form.{Form}
use Rattle.cmd_line.specs.declared.options.Form.TheVariants.{Plain, Grouped, Journal}
use Rattle.cmd_replay.specs.declared.ends.ReplayEnd.{ReplayEnd}
use Rattle.cmd_replay.specs.declared.ends.ReplayEnd.TheVariants as end

-- the text of a journal in the form that was asked for: the lines of its notes in order, or
-- connection after connection, or its own text
abbrev pub text_in : Form → ℕ → List (Entry ServerNote) → List ℕ
text_in Plain most journal = journal_lines journal
text_in Grouped most journal = lines_by_connection journal
text_in Journal most journal = text_so_far most journal

-- What a run wrote that ended so and wrote as it went: all of the text of its journal, or a front
-- of it if a write failed.
abbrev pub WritesAlong : ReplayEnd → SinkFacts → List ℕ → SinkFacts → Type 0
WritesAlong end.WriteFault o text p = TookFront o text p
WritesAlong _ o text p = TookAll o text p

-- What a run wrote that ended so and writes once it is done: all, or a front if a write failed;
-- and nothing if it was not done.
abbrev pub WritesBehind : ReplayEnd → SinkFacts → List ℕ → SinkFacts → Type 0
WritesBehind end.Done o text p = TookAll o text p
WritesBehind end.WriteFault o text p = TookFront o text p
WritesBehind _ o text p = p ≡ o

-- text that is grouped is made of the whole journal, and so is written after the run
abbrev pub WritesText : Form → ReplayEnd → SinkFacts → List ℕ → SinkFacts → Type 0
WritesText Plain ended o text p = WritesAlong ended o text p
WritesText Grouped ended o text p = WritesBehind ended o text p
WritesText Journal ended o text p = WritesAlong ended o text p
