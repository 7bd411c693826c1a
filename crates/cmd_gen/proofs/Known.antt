-- The summary of a run over a generated script that had memory.
use Rattle.std.proofs.Common.{◌≡◌, ◌∙◌, ◌≤◌, arith, inl, ℕ, List, drop, refl, ap, subst}
use Rattle.ev_base.specs.Sink.{SinkFacts}
use Rattle.ev_base.specs.declared.end.PeerEnd.{Ghosts}
use Rattle.cmd_replay.specs.acceptor.specs.Servers.{servers}
use Rattle.cmd_replay.specs.acceptor.specs.declared.server.ServerHandler.{ServerHandler}
use Rattle.laws_gen.specs.Runs.{SumsUp}
use Rattle.laws_gen.proofs.Totals.{sums_up_with_room}
use Rattle.cmd_replay.specs.log_handler.specs.declared.note.ServerNote.{ServerNote}
use Rattle.cmd_replay.specs.reactor_journal.specs.declared.entry.Entry.{Entry}
use Rattle.cmd_replay.specs.reactor_model.specs.Volumes.{VolumesFacts}
use Rattle.run_summary.specs.declared.summary.Summary.{Summary}
use Rattle.run_summary.specs.Summaries.{told, connections_in, records_in, bytes_in, lines_in}
use Rattle.run_summary.specs.Summaries.{four_lines}
use Rattle.script_generator.specs.Scripts.{generated}
use Rattle.script_net.specs.ScriptEnd.{script_end_facts, ScriptEndKeeps}
use Rattle.script_net.specs.declared.end.ScriptEnd.{ScriptEnd}
use Rattle.cmd_replay.specs.Runs.{IsScriptRun}
use Rattle.cmd_replay.proofs.All.{run-of}
use Rattle.laws_gen.specs.laws_script_runs.specs.Connections.{HadMemory}
use Rattle.cmd_replay.specs.server_run.specs.declared.ending.Ending.{Ending}
use Rattle.cmd_replay.specs.server_run.specs.declared.ending.Ending.TheVariants as ending
use Rattle.cmd_replay.specs.sink_buffer.specs.Written.{TakesAll, BreaksOff}
use Rattle.cmd_gen.specs.Asking.{asked_for, terms_for}
use Rattle.cmd_gen.specs.Generating.{RunsGenerated}
use Rattle.cmd_gen.specs.Summing.{LeavesText, full_lines, summary_lines}
use Rattle.cmd_gen.specs.declared.ends.Generated.{Generated}
use Rattle.cmd_gen.specs.declared.ends.GenerateEnd.{GenerateEnd}
use Rattle.cmd_gen.specs.declared.ends.GenerateEnd.TheVariants as end

lines-same : (a b c d a' b' c' d' : ℕ) → a ≡ a' → b ≡ b' → c ≡ c' → d ≡ d'
    → four_lines a b c d ≡ four_lines a' b' c' d'
lines-same a b c d a' b' c' d' e f g h =
    ap (λ (n : ℕ). four_lines n b c d) e ∙ ap (λ (n : ℕ). four_lines a' n c d) f
    ∙ ap (λ (n : ℕ). four_lines a' b' n d) g ∙ ap (λ (n : ℕ). four_lines a' b' c' n) h

-- the summary of a journal
abbrev summary_of : List (Entry ServerNote) → Summary
summary_of journal = record {
  connections = told (connections_in journal);
  records = told (records_in journal);
  bytes = told (bytes_in journal);
  lines = told (lines_in journal);
}

full : {G : Ghosts ScriptEnd} (n seed : ℕ) (v : VolumesFacts ServerNote) (how : Ending)
    (journal : List (Entry ServerNote)) → 1 ≤ n → n ≤ 1000
    → IsScriptRun G (terms_for n seed v) (asked_for n) (generated n seed) how journal
    → how ≡ ending.Over → HadMemory journal → summary_lines journal ≡ full_lines n seed
full {G} n seed v how journal least many r over memory =
    let sums : SumsUp n seed (summary_of journal) =
    sums_up_with_room {H = ServerHandler ScriptEnd G} (servers script_end_facts ScriptEndKeeps)
    (terms_for n seed v) n seed journal (summary_of journal) least many
    (r.over over refl) (omega arith) r.follows.none_failed memory
    (record { connections = refl; records = refl; bytes = refl; lines = refl }) in
    lines-same _ _ _ _ _ _ _ _ sums.connections sums.records sums.bytes sums.lines

module _ {K V : Type 0} {G : Ghosts ScriptEnd} (facts : V → VolumesFacts ServerNote) (n seed : ℕ)
    (v : VolumesFacts ServerNote) (left : Generated K V) (least : 1 ≤ n) (many : n ≤ 1000)
    (memory : HadMemory left.journal.entries) where
  held-full : (ended : GenerateEnd) (r : RunsGenerated G facts n seed v left ended)
      → (r.how ≡ ending.Over) × (left.first ≡ 0)
      → summary_lines left.journal.entries ≡ full_lines n seed
  held-full ended r ends =
      let whole : left.journal.entries ≡ r.journal =
      r.is.held ∙ ap (λ (k : ℕ). drop k r.journal) ends.1 in
      ap summary_lines whole ∙ full n seed v r.how r.journal least many
      (run-of (terms_for n seed v) (asked_for n) (generated n seed) r.journal r.how (inl ends.0)
      r.ran.came) ends.0 (subst HadMemory whole memory)

  -- what was written of the summary is written of the lines that are known
  pub writes-full : (ended : GenerateEnd) (o p : SinkFacts)
      → RunsGenerated G facts n seed v left ended
      → LeavesText ended o (summary_lines left.journal.entries) p
      → LeavesText ended o (full_lines n seed) p
  writes-full end.Done o p r writes =
      subst (λ (text : List ℕ). TakesAll o text p) (held-full end.Done r r.ends) writes
  writes-full end.WriteFault o p r writes =
      subst (λ (text : List ℕ). BreaksOff o text p) (held-full end.WriteFault r r.ends) writes
  writes-full end.NoMemory o p r writes = writes
  writes-full end.VolumeFault o p r writes = writes
