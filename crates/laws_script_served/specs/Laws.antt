-- What holds of runs of the server over a script.
use Rattle.std.specs.Prelude.{◌≡◌, ℕ, true, false, List, Option, reverse}
use Rattle.ev_base.specs.Sink.{SinkFacts}
use Rattle.ev_base.specs.Terms.{Terms}
use Rattle.ev_base.specs.declared.end.PeerEnd.{Ghosts}
use Rattle.laws_script_calls.specs.reactor_journal.specs.declared.entry.Entry.{Entry}
use Rattle.laws_script_calls.specs.reactor_model.specs.Volumes.{VolumesFacts}
use Rattle.laws_script_calls.specs.log_handler.specs.declared.note.ServerNote.{ServerNote}
use Rattle.laws_script_calls.specs.acceptor.specs.Servers.{servers}
use Rattle.laws_script_calls.specs.acceptor.specs.declared.server.ServerHandler.{ServerHandler}
use Rattle.script_net.specs.event_script.specs.Script.{ScriptGroup, steps_of, groups_told}
use Rattle.script_net.specs.event_script.specs.Script.{are_steps}
use Rattle.script_net.specs.event_script.specs.Grammar.{IsScriptText}
use Rattle.script_net.specs.Hosts.{ScriptContent, LaysDown}
use Rattle.script_net.specs.NetContent.{NetContent}
use Rattle.script_net.specs.ScriptEnd.{script_end_facts, ScriptEndKeeps}
use Rattle.script_net.specs.declared.end.ScriptEnd.{ScriptEnd}
use Rattle.script_text.specs.Parsing.{HasGroups}
use Rattle.laws_script_calls.specs.laws_script_runs.specs.Laws.{RunsOver}
use Rattle.laws_script_calls.specs.laws_script_runs.specs.Runs.{EndsAtOver}
use Rattle.laws_script_calls.specs.reactor_model.specs.Entries.{is_notice}
use Rattle.std.specs.List.{list_any}
use Rattle.laws_script_served.specs.Terms.{HaveScript, terms_of_script}
use Rattle.laws_script_served.specs.Served.{ServesScript, FollowsScript, IsServedToOver}

-- the terms of a script lay down what is read from its text, and have its stories
pub record LaysScriptsDown : Type 0 where
  pub down : (connections : ℕ) (idle : Option ℕ) (groups : List ScriptGroup) (o : SinkFacts)
      (v : VolumesFacts ServerNote) (script : ScriptContent) (room : ℕ)
      → HasGroups script room groups → LaysDown (terms_of_script connections idle groups o v) script
  pub have : (connections : ℕ) (idle : Option ℕ) (groups : List ScriptGroup) (o : SinkFacts)
      (v : VolumesFacts ServerNote) → HaveScript (terms_of_script connections idle groups o v)
      groups idle
  pub steps : (text : List ℕ) (groups : List ScriptGroup) → IsScriptText text groups
      → are_steps (reverse (steps_of groups)) ≡ true

abbrev pub ScriptsAreFollowed : Ghosts ScriptEnd → Type 0
ScriptsAreFollowed G =
    (t : Terms) (groups : List ScriptGroup) (idle : Option ℕ) (journal : List (Entry ServerNote))
    (net : NetContent)
    → ServesScript G t groups idle journal net → FollowsScript groups idle journal

abbrev pub ScriptsEndOver : Ghosts ScriptEnd → Type 0
ScriptsEndOver G =
    (t : Terms) (groups : List ScriptGroup) (idle : Option ℕ) (journal : List (Entry ServerNote))
    (net : NetContent)
    → ServesScript G t groups idle journal net → IsServedToOver G t journal net
    → EndsAtOver (groups_told groups) journal

-- and without notices it is one that the laws of whole runs speak of
abbrev pub ScriptsRunOver : Ghosts ScriptEnd → Type 0
ScriptsRunOver G =
    (t : Terms) (groups : List ScriptGroup) (idle : Option ℕ) (journal : List (Entry ServerNote))
    (net : NetContent)
    → ServesScript G t groups idle journal net → IsServedToOver G t journal net
    → list_any is_notice journal ≡ false
    → RunsOver {H = ServerHandler ScriptEnd G} (servers script_end_facts ScriptEndKeeps) t idle
    groups journal
