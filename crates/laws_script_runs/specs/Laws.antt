-- What holds of whole runs over a script.
use Rattle.std.specs.Prelude.{◌≡◌, ◌<◌, ℕ, true, false, List, ◌∷◌, reverse, Option, Some, None}
use Rattle.std.specs.List.{list_any}
use Rattle.reactor_model.specs.ev_types.specs.declared.upcall.Upcall.{Upcall}
use Rattle.reactor_model.specs.ev_base.specs.Terms.{Terms}
use Rattle.reactor_model.specs.reactor_journal.specs.declared.entry.Entry.{Entry}
use Rattle.reactor_model.specs.reactor_journal.specs.declared.entry.Entry.TheVariants.{Opened}
use Rattle.reactor_model.specs.reactor_journal.specs.Past.{past_of}
use Rattle.laws_script_told.specs.log_handler.specs.declared.note.ServerNote.{ServerNote}
use Rattle.reactor_model.specs.Handling.{Handling, Deed}
use Rattle.laws_script_turns.specs.acceptor.specs.Servers.{read_alone, ServerMay, is_accepted}
use Rattle.laws_by_turns.specs.ByTurns.{DispatchedByTurns}
use Rattle.laws_script_turns.specs.event_script.specs.Script.{ScriptGroup, steps_of, groups_told}
use Rattle.laws_script_turns.specs.event_script.specs.Script.{are_steps, opened}
use Rattle.laws_script_told.specs.Told.{Follows}
use Rattle.laws_script_turns.specs.Grouped.{grouped}
use Rattle.laws_script_runs.specs.Connections.{lines_by_connection, AreLeft, HadMemory}
use Rattle.laws_script_runs.specs.Runs.{IsWhole, EndsAtOver, is_timer, is_refusal}
use Rattle.reactor_model.specs.Entries.{is_notice, is_fault}
use Rattle.laws_script_runs.specs.Runs.{first_handle}

-- The turns of such handlers ask for no more than those of a server, and install as these do.
pub record ActsAsServer {H E : Type 0} (means : Handling H E ServerNote) (t : Terms) : Type 0 where
  pub asks : (up : Upcall) (deed : Deed) → means.may t up deed → ServerMay t up deed
  pub installs : (said : ServerNote) → means.installs said ≡ is_accepted said

-- What the two laws below take: a whole journal over a script, which goes by turns alone before it
-- ends, when nothing can be reported any more and nothing is to be started.
pub record RunsOver {H E : Type 0} (means : Handling H E ServerNote) (t : Terms) (idle : Option ℕ)
    (groups : List ScriptGroup) (journal : List (Entry ServerNote)) : Type 0 where
  pub script : are_steps (reverse (steps_of groups)) ≡ true
  pub whole : IsWhole t.most journal
  pub begins : (rest : List (Entry ServerNote)) × (journal ≡ Opened first_handle read_alone ∷ rest)
  pub ends : EndsAtOver (groups_told groups) journal
  pub acts : ActsAsServer means t
  pub turned : DispatchedByTurns means t 1 ends.run
  pub idle_is : t.idle ≡ Some idle
  pub no_notice : list_any is_notice journal ≡ false
  pub follows : Follows (groups_told groups) journal
  pub turns : AreLeft (steps_of groups) idle (past_of journal)

-- If there is room for all connections of the script beside the acceptor, and the net took each
-- end in, no handler was refused.
abbrev pub NoneIsRefused : {H E : Type 0} → Handling H E ServerNote → Type 0
NoneIsRefused means =
    (t : Terms) (idle : Option ℕ) (groups : List ScriptGroup) (journal : List (Entry ServerNote))
    → RunsOver means t idle groups journal
    → opened (steps_of groups) < t.most → list_any is_fault journal ≡ false
    → list_any is_refusal journal ≡ false

-- If no timer was set, no handler refused and none closed for want of memory, the lines of the
-- journal, connection after connection, are the grouped text of the script.
abbrev pub GroupsLines : {H E : Type 0} → Handling H E ServerNote → Type 0
GroupsLines means =
    (t : Terms) (groups : List ScriptGroup) (journal : List (Entry ServerNote))
    → RunsOver means t None groups journal
    → list_any is_timer journal ≡ false → list_any is_refusal journal ≡ false → HadMemory journal
    → lines_by_connection journal ≡ grouped (steps_of groups)
