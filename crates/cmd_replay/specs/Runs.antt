-- What the journal of a run of the server over a script says.
use Rattle.std.specs.Prelude.{◌≡◌, ◌≤◌, ◌+◌, ◌*◌, ◌/◌, ◌^◌, ℕ, List, ◌∷◌, ◌++◌, drop}
use Rattle.std.specs.Prelude.{length, true, Option, Some, None}
use Rattle.std.specs.List.{list_any}
use Rattle.ev_base.specs.ev_types.specs.declared.upcall.Handle.{Handle}
use Rattle.ev_base.specs.Terms.{Terms}
use Rattle.ev_base.specs.declared.end.PeerEnd.{Ghosts}
use Rattle.server_run.specs.reactor_journal.specs.declared.entry.Entry.{Entry}
use Rattle.server_run.specs.reactor_journal.specs.declared.entry.Entry.TheVariants.{Closed}
use Rattle.server_run.specs.reactor_journal.specs.declared.entry.Entry.TheVariants.{Ended}
use Rattle.server_run.specs.reactor_journal.specs.Past.{past_of}
use Rattle.server_run.specs.reactor_core.specs.Ends.{WhereTold}
use Rattle.server_run.specs.reactor_core.specs.Stands.{HasTaken, Meaning}
use Rattle.server_run.specs.log_lines.specs.declared.end_kind.EndKind.{EndKind}
use Rattle.server_run.specs.log_handler.specs.declared.note.ServerNote.{ServerNote}
use Rattle.server_run.specs.log_handler.specs.declared.note.ServerNote.TheVariants.{Finished}
use Rattle.server_run.specs.acceptor.specs.Servers.{servers}
use Rattle.server_run.specs.acceptor.specs.declared.server.ServerHandler.{ServerHandler}
use Rattle.grouped_lines.specs.laws_by_turns.specs.ByTurns.{DispatchedByTurns}
use Rattle.script_net.specs.event_script.specs.Script.{ScriptGroup, steps_of, groups_told, opened}
use Rattle.script_net.specs.event_script.specs.Grammar.{IsScriptText}
use Rattle.script_net.specs.NetContent.{NetContent}
use Rattle.script_net.specs.ScriptEnd.{script_end_facts, ScriptEndKeeps}
use Rattle.script_net.specs.declared.end.ScriptEnd.{ScriptEnd}
use Rattle.server_run.specs.laws_script_complete.specs.Complete.{LeavesNoStep, TookAllAs}
use Rattle.grouped_lines.specs.laws_script_turns.specs.Grouped.{grouped}
use Rattle.grouped_lines.specs.laws_script_runs.specs.Connections.{HadMemory, accepted}
use Rattle.grouped_lines.specs.laws_script_runs.specs.Connections.{lines_by_connection}
use Rattle.grouped_lines.specs.laws_script_runs.specs.Laws.{RunsOver}
use Rattle.grouped_lines.specs.laws_script_runs.specs.Runs.{IsWhole}
use Rattle.grouped_lines.specs.laws_script_runs.specs.Runs as runs
use Rattle.laws_journal_length.specs.laws_script_serial.specs.Serial.{Serial}
use Rattle.laws_script_served.specs.Served.{FollowsScript}
use Rattle.server_run.specs.laws_script_taken.specs.Laws.{OffersEach}
use Rattle.server_run.specs.laws_script_taken.specs.Taken.{accepts_connection, IsTaken}
use Rattle.laws_script_served.specs.Terms.{HaveScript}
use Rattle.laws_journal_length.specs.Few.{all_bytes, quiet_groups}
use Rattle.server_run.specs.Journals.{BeginsSo, EndsByNotice, HasNotices}
use Rattle.server_run.specs.Served.{CameSo, HasLed}
use Rattle.server_run.specs.Starting.{AreTermsOf}
use Rattle.server_run.specs.reactor_desk.specs.Desks.{FillsVolume}
use Rattle.server_run.specs.declared.asked.Asked.{Asked}
use Rattle.server_run.specs.declared.ending.Ending.{Ending}
use Rattle.server_run.specs.declared.ending.Ending.TheVariants as ending
use Rattle.server_run.specs.declared.ending.Served.{Served}

-- Why a run over a script ended: nothing could be reported any more, and the script answers its
-- last wait so; or a notice ended it. A net that plays a script fails in no call.
abbrev pub EndsScript : Asked → List ScriptGroup → Ending → List (Entry ServerNote)
    → List (Entry ServerNote) → Type 0
EndsScript asked groups ending.Over journal run = runs.EndsAtOver (groups_told groups) journal
EndsScript asked groups ending.Notified journal run = EndsByNotice asked.until run
EndsScript asked groups ending.NotAttached journal run = ⊥
EndsScript asked groups ending.NetFault journal run = ⊥
EndsScript asked groups ending.Broken journal run = Unit {0}
EndsScript asked groups ending.NoMemory journal run = Unit {0}
EndsScript asked groups ending.VolumeFault journal run = Unit {0}

-- an ending by a fault of the net
abbrev pub FailsNet : Ending → Type 0
FailsNet ending.NotAttached = Unit {0}
FailsNet ending.NetFault = Unit {0}
FailsNet _ = ⊥

-- The journal of a run over a script that ended so: it is legal, was stopped, and each handle that
-- was opened was closed; it began with the registration of the acceptor, if a handler was
-- registered at all, and before its end it goes by turns alone; after its end each handler that a
-- turn installs is registered or refused directly after that turn, but one `Closed` may stand
-- between; notifications are for the acceptor, and stand only if a notice was asked for; it
-- follows the script, and no handler was refused for a fault; each connection that it notes as
-- accepted took a front of its bytes, noted the records of these, and was closed once, with a word
-- that has its cause. If no notice was asked for and nothing could be reported any more, it ran
-- over the whole script.
pub record IsScriptRun (G : Ghosts ScriptEnd) (t : Terms) (asked : Asked)
    (groups : List ScriptGroup) (how : Ending) (journal : List (Entry ServerNote)) : Type 0 where
  pub whole : IsWhole (asked.connections + 1) journal
  pub run : List (Entry ServerNote)
  pub closing : List (Entry ServerNote)
  pub is : journal ≡ run ++ Ended ∷ closing
  pub begins : BeginsSo run
  pub turned : DispatchedByTurns {H = ServerHandler ScriptEnd G}
      (servers script_end_facts ScriptEndKeeps) t 1 run
  pub offers : OffersEach {H = ServerHandler ScriptEnd G} (servers script_end_facts ScriptEndKeeps)
      closing
  pub notices : HasNotices asked.until journal
  pub follows : FollowsScript groups asked.idle journal
  pub taken : (c : ℕ) → list_any (accepts_connection c) journal ≡ true
      → IsTaken (steps_of groups) asked.idle journal c
  pub ends : EndsScript asked groups how journal run
  pub over : how ≡ ending.Over → asked.until ≡ None
      → RunsOver {H = ServerHandler ScriptEnd G} (servers script_end_facts ScriptEndKeeps) t
      asked.idle groups journal

-- One worker leaves the serial journal of the script, if nothing could be reported any more;
-- and, without an idle time, few entries.
pub record IsOfOneWorker (asked : Asked) (groups : List ScriptGroup) (how : Ending)
    (journal : List (Entry ServerNote)) : Type 0 where
  pub serial : how ≡ ending.Over → Serial (asked.connections + 1) asked.idle groups journal
  pub few : asked.idle ≡ None → length journal
      ≤ 16 * length (steps_of groups) + all_bytes (steps_of groups) / 1024 + quiet_groups groups
      + 200

-- What a run has done that was over with its whole script, however many workers ran it: each
-- connection of the script was accepted; no group of it is left, and no step but those of ends that
-- were closed or refused; each connection that was closed as read to its end has taken all its
-- bytes. If no idle time was asked for, there was room for all connections, and none was closed
-- for want of memory, the lines of the journal, connection after connection, are the grouped text
-- of the script.
pub record DoesAll (asked : Asked) (groups : List ScriptGroup)
    (journal : List (Entry ServerNote)) : Type 0 where
  pub accepted_all : accepted journal ≡ opened (steps_of groups)
  pub run : List (Entry ServerNote)
  pub closing : List (Entry ServerNote)
  pub is : journal ≡ run ++ Ended ∷ closing
  pub no_step : LeavesNoStep groups (past_of run)
  pub took_all : (before after : List (Entry ServerNote)) (handle : Handle) (c : ℕ) (word : EndKind)
      → journal ≡ before ++ Closed handle (Finished c word) ∷ after
      → TookAllAs word c journal (steps_of groups)
  pub grouped_text : asked.idle ≡ None → opened (steps_of groups) ≤ asked.connections
      → HadMemory journal → lines_by_connection journal ≡ grouped (steps_of groups)

-- What a run over a script came to that ended so, with this journal, of at most 2^62 entries. If
-- workers led, they were as many as were asked for. If it was over, and no notice was asked for, it
-- did all that the script has.
pub record RanSo {H M Q W V E : Type 0} (G : Ghosts ScriptEnd) (m : Meaning H M Q W V ServerNote E)
    (t : Terms) (asked : Asked) (groups : List ScriptGroup) (how : Ending)
    (journal : List (Entry ServerNote)) : Type 0 where
  pub bound : length journal ≤ 2 ^ 62
  pub came : CameSo how journal (IsScriptRun G t asked groups how journal)
      (HasLed m t asked how journal)
  pub all : how ≡ ending.Over → asked.until ≡ None → DoesAll asked groups journal
  pub one : asked.workers ≡ 1 → asked.until ≡ None → IsOfOneWorker asked groups how journal

-- Its first entries were handed over, so many, and the others are held. Those that were handed over
-- were whole volumes, or more, of the size that was asked for.
pub record IsHeld (t : Terms) (asked : Asked) (taken : Option (List (Entry ServerNote))) (first : ℕ)
    (entries journal : List (Entry ServerNote)) : Type 0 where
  pub within : first ≤ length journal
  pub held : entries ≡ drop first journal
  pub taken_is : WhereTold (HasTaken t first journal) taken
  pub filled : FillsVolume asked.volume first

-- What is left of a run over a script: one journal, and the watch stands for it.
pub record LeavesScript {W V Q : Type 0} (G : Ghosts ScriptEnd)
    (m : Meaning (ServerHandler ScriptEnd G) NetContent Q W V ServerNote ScriptEnd)
    (t : Terms) (asked : Asked) (groups : List ScriptGroup)
    (served : Served NetContent Q W V) : Type 0 where
  pub journal : List (Entry ServerNote)
  pub is : IsHeld t asked (m.volumes served.parts.volumes).taken served.parts.first
      served.parts.journal.entries journal
  pub watch : m.watched t served.parts.watch journal
  pub ran : RanSo G m t asked groups served.ending journal

-- the terms have the script of a text, with a net that fails in no call
pub record ForScript (asked : Asked) (groups : List ScriptGroup) (t : Terms) : Type 0 where
  pub text : List ℕ
  pub is_text : IsScriptText text groups
  pub have : HaveScript t groups asked.idle
  pub terms : AreTermsOf asked t
  pub most : t.most ≡ asked.connections + 1
  pub steady : t.steady ≡ Some true
