-- A run that was over with its script has done all that it has.
use Rattle.std.proofs.Common.{◌≡◌, ◌∙◌, ◌<◌, ◌≤◌, ◌+◌, ◌⊎◌, arith, ℕ, List, Option, None, refl, sym}
use Rattle.std.proofs.Common.{subst}
use Rattle.ev_base.specs.Terms.{Terms}
use Rattle.ev_base.specs.declared.end.PeerEnd.{Ghosts}
use Rattle.server_run.specs.reactor_journal.specs.declared.entry.Entry.{Entry}
use Rattle.server_run.specs.log_handler.specs.declared.note.ServerNote.{ServerNote}
use Rattle.server_run.specs.acceptor.specs.Servers.{servers}
use Rattle.server_run.specs.acceptor.specs.declared.server.ServerHandler.{ServerHandler}
use Rattle.server_run.specs.reactor_model.specs.Handling.{Handling}
use Rattle.script_net.specs.event_script.specs.Script.{ScriptGroup, steps_of, opened}
use Rattle.script_net.specs.ScriptEnd.{script_end_facts, ScriptEndKeeps}
use Rattle.script_net.specs.declared.end.ScriptEnd.{ScriptEnd}
use Rattle.grouped_lines.specs.laws_script_runs.specs.Connections.{HadMemory, lines_by_connection}
use Rattle.grouped_lines.specs.laws_script_runs.specs.Laws.{RunsOver}
use Rattle.grouped_lines.specs.laws_script_runs.proofs.Refusing.{none_refused}
use Rattle.grouped_lines.specs.laws_script_runs.proofs.Second.{second_law}
use Rattle.grouped_lines.specs.laws_script_turns.specs.Grouped.{grouped}
use Rattle.server_run.specs.laws_script_complete.proofs.Closing.{took_all}
use Rattle.server_run.specs.laws_script_complete.proofs.Steps.{no_step}
use Rattle.server_run.specs.laws_script_complete.proofs.Taking.{all_accepted}
use Rattle.server_run.specs.declared.asked.Asked.{Asked}
use Rattle.server_run.specs.declared.ending.Ending.{Ending}
use Rattle.server_run.specs.declared.ending.Ending.TheVariants as ending
use Rattle.server_run.specs.Served.{CameSo}
use Rattle.server_run.proofs.Came.{made_at}
use Rattle.cmd_replay.specs.Runs.{DoesAll, IsScriptRun}

module _ (G : Ghosts ScriptEnd) (t : Terms) (asked : Asked) (groups : List ScriptGroup)
    (journal : List (Entry ServerNote)) (most : t.most ≡ asked.connections + 1) where
  abbrev means : Handling (ServerHandler ScriptEnd G) ScriptEnd ServerNote
  means = servers {G = G} script_end_facts ScriptEndKeeps

  room : opened (steps_of groups) ≤ asked.connections → opened (steps_of groups) < t.most
  room within = omega (arith, within, most)

  text : (how : Ending) → IsScriptRun G t asked groups how journal → (idle : Option ℕ)
      → asked.idle ≡ idle → RunsOver means t idle groups journal → asked.idle ≡ None
      → opened (steps_of groups) ≤ asked.connections → HadMemory journal
      → lines_by_connection journal ≡ grouped (steps_of groups)
  text how r idle is over none within memory =
      let untimed = subst (λ (i : Option ℕ). RunsOver means t i groups journal) (sym is ∙ none) over
      in
      second_law means t groups journal untimed
      (none_refused means t None groups journal untimed (room within) r.follows.none_failed)
      memory

  does-all : (how : Ending) → IsScriptRun G t asked groups how journal
      → RunsOver means t asked.idle groups journal → DoesAll asked groups journal
  does-all how r over = record {
    accepted_all = all_accepted means t asked.idle groups journal over;
    run = over.ends.run;
    closing = over.ends.closing;
    is = over.ends.is;
    no_step = no_step means t asked.idle groups journal over;
    took_all = λ before after handle c word is.
        took_all means t asked.idle groups journal over before after handle c word is;
    grouped_text = text how r asked.idle refl over;
  }

  pub all-of : (how : Ending) → IsScriptRun G t asked groups how journal → how ≡ ending.Over
      → asked.until ≡ None → DoesAll asked groups journal
  all-of how r over none = does-all how r (r.over over none)

-- a run that was over, or was ended by a notice, left the journal of one
pub run-of : {G : Ghosts ScriptEnd} {led : Type 0} (t : Terms) (asked : Asked)
    (groups : List ScriptGroup) (journal : List (Entry ServerNote)) (how : Ending)
    → (how ≡ ending.Over) ⊎ (how ≡ ending.Notified)
    → CameSo how journal (IsScriptRun G t asked groups how journal) led
    → IsScriptRun G t asked groups how journal
run-of t asked groups journal how which came = made_at how journal which came
