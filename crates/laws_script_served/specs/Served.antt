-- What a run of the server over a net that plays a script leaves.
use Rattle.std.specs.Prelude.{◌≡◌, ℕ, true, false, List, [], ◌∷◌, ◌++◌, Option}
use Rattle.std.specs.List.{list_any, list_all}
use Rattle.ev_base.specs.Terms.{Terms}
use Rattle.ev_base.specs.declared.end.PeerEnd.{Ghosts}
use Rattle.laws_script_calls.specs.reactor_journal.specs.declared.entry.Entry.{Entry}
use Rattle.laws_script_calls.specs.reactor_journal.specs.declared.entry.Entry.TheVariants.{Opened}
use Rattle.laws_script_calls.specs.reactor_journal.specs.declared.entry.Entry.TheVariants.{Ended}
use Rattle.laws_script_calls.specs.reactor_journal.specs.Follow.{follows_ready}
use Rattle.laws_script_calls.specs.reactor_journal.specs.Past.{past_of, count}
use Rattle.laws_script_calls.specs.reactor_core.specs.Marks.{IsOverAt, answers, is_polled}
use Rattle.laws_script_calls.specs.reactor_core.specs.Stands.{NetStands}
use Rattle.laws_script_calls.specs.log_handler.specs.declared.note.ServerNote.{ServerNote}
use Rattle.laws_script_calls.specs.acceptor.specs.Servers.{servers, read_alone}
use Rattle.laws_script_calls.specs.acceptor.specs.declared.server.ServerHandler.{ServerHandler}
use Rattle.laws_script_calls.specs.laws_by_turns.specs.ByTurns.{DispatchedByTurns}
use Rattle.script_net.specs.event_script.specs.Script.{ScriptGroup, steps_of, groups_told}
use Rattle.script_net.specs.event_script.specs.Grammar.{IsScriptText}
use Rattle.script_net.specs.NetContent.{NetContent, script_net_facts, script_net_keeps}
use Rattle.script_net.specs.ScriptEnd.{script_end_facts, ScriptEndKeeps}
use Rattle.script_net.specs.declared.end.ScriptEnd.{ScriptEnd}
use Rattle.laws_script_calls.specs.laws_script_told.specs.Told.{Follows}
use Rattle.laws_script_calls.specs.laws_script_runs.specs.Connections.{AreLeft}
use Rattle.laws_script_calls.specs.laws_script_runs.specs.Runs.{IsWhole, HasNoWork, first_handle}
use Rattle.laws_script_calls.specs.laws_script_runs.specs.Runs.{is_closing}
use Rattle.laws_script_calls.specs.reactor_model.specs.Entries.{is_fault}
use Rattle.laws_script_served.specs.Terms.{HaveScript}

-- Under terms that have the script of a text, this journal is whole, and the net stands for it,
-- which failed in no attach.
pub record ServesScript (G : Ghosts ScriptEnd) (t : Terms) (groups : List ScriptGroup)
    (idle : Option ℕ) (journal : List (Entry ServerNote)) (net : NetContent) : Type 0 where
  pub text : List ℕ
  pub is_text : IsScriptText text groups
  pub have : HaveScript t groups idle
  pub whole : IsWhole t.most journal
  pub stands : NetStands {H = ServerHandler ScriptEnd G} (servers script_end_facts ScriptEndKeeps) t
      (past_of journal) [] (script_net_facts net)
  pub keeps : script_net_keeps t net
  pub attaches : net.failed_attaches ≡ 0

-- Each wait was as the script tells; each handler had its turns over its story; and none was
-- refused for a fault.
pub record FollowsScript (groups : List ScriptGroup) (idle : Option ℕ)
    (journal : List (Entry ServerNote)) : Type 0 where
  pub follows : Follows (groups_told groups) journal
  pub turns : AreLeft (steps_of groups) idle (past_of journal)
  pub none_failed : list_any is_fault journal ≡ false

-- The run goes by turns after the registration of the acceptor, and ended after a wait that the
-- net answered Over, with nothing to start and nothing open; then the handlers that were alive were
-- closed.
pub record IsServedToOver (G : Ghosts ScriptEnd) (t : Terms) (journal : List (Entry ServerNote))
    (net : NetContent) : Type 0 where
  pub run : List (Entry ServerNote)
  pub closing : List (Entry ServerNote)
  pub is : journal ≡ run ++ Ended ∷ closing
  pub begins : (rest : List (Entry ServerNote)) × (run ≡ Opened first_handle read_alone ∷ rest)
  pub turned : DispatchedByTurns {H = ServerHandler ScriptEnd G}
      (servers script_end_facts ScriptEndKeeps) t 1 run
  pub behind : follows_ready (past_of run) ≡ true
  pub rests : HasNoWork (past_of run)
  pub over : IsOverAt (count is_polled (past_of run)) (answers net.calls)
  pub closes : list_all is_closing closing ≡ true
