-- A whole run of one worker over a script: its loop, entry by entry, and its winding up.
use Rattle.std.specs.Prelude.{◌≡◌, ℕ, false, List, [], ◌∷◌, ◌++◌, Option, Some, None}
use Rattle.std.specs.List.{list_any}
use Rattle.laws_script_calls.specs.ev_base.specs.Net.{Call}
use Rattle.laws_script_calls.specs.ev_base.specs.Playing.{Plays}
use Rattle.laws_script_calls.specs.ev_base.specs.Terms.{Terms, Group}
use Rattle.laws_script_calls.specs.reactor_journal.specs.declared.entry.Entry.{Entry}
use Rattle.laws_script_calls.specs.reactor_journal.specs.declared.entry.Entry.TheVariants.{Opened}
use Rattle.laws_script_calls.specs.reactor_journal.specs.Past.{past_of}
use Rattle.laws_script_calls.specs.reactor_summary.specs.Summary.{summary}
use Rattle.laws_script_calls.specs.reactor_core.specs.Acting.{StopAppends}
use Rattle.laws_script_calls.specs.reactor_core.specs.Stands.{Meaning}
use Rattle.tp_reactor.specs.reactor_desk.specs.declared.terms.DeskTerms.{DeskTerms}
use Rattle.tp_reactor.specs.Alone.{RunsTo}
use Rattle.tp_reactor.specs.declared.working.Ran.{Ran}
use Rattle.laws_script_calls.specs.acceptor.specs.Servers.{read_alone}
use Rattle.laws_script_calls.specs.event_script.specs.Script.{ScriptGroup, steps_of, groups_told}
use Rattle.laws_script_calls.specs.event_script.specs.Stories.{offers}
use Rattle.laws_script_calls.specs.log_handler.specs.declared.note.ServerNote.{ServerNote}
use Rattle.laws_script_calls.specs.laws_script_told.specs.Told.{Follows}
use Rattle.laws_script_calls.specs.laws_script_runs.specs.Connections.{AreLeft}
use Rattle.laws_script_calls.specs.laws_script_runs.specs.Laws.{ActsAsServer}
use Rattle.laws_script_calls.specs.laws_script_runs.specs.Runs.{first_handle}
use Rattle.laws_script_calls.specs.reactor_model.specs.Entries.{is_notice, is_fault}
use Rattle.laws_script_calls.specs.laws_script_runs.specs.Runs.{IsWhole}
use Rattle.laws_script_calls.specs.Laws.{NamesAsServer}

-- the calls of a net are told, and are those of one that plays these groups
abbrev pub TellsPlaying : List Group → Option (List Call) → Type 0
TellsPlaying groups None = ⊥
TellsPlaying groups (Some calls) = Plays groups calls

-- each net that keeps the terms does so
abbrev pub PlaysScript : {H M Q W V N E : Type 0} → Meaning H M Q W V N E → Terms → List Group
    → Type 0
PlaysScript {M = M} m t groups = (net : M) → m.keeps t net → TellsPlaying groups (m.facts net).calls

-- the journal of a reactor before its loop: its acceptor was registered
abbrev pub at_first : List (Entry ServerNote)
at_first = Opened first_handle read_alone ∷ []

-- A worker that was alone with its reactor ran it from the registration of the acceptor on, without
-- a limit of its own, until a lead gave this answer; and the reactor was stopped. Beside each part
-- stands where a caller has it from.
pub record RunsAlone {H M Q W V E : Type 0} (m : Meaning H M Q W V ServerNote E) (q : DeskTerms)
    (answer : Ran) (idle : Option ℕ) (groups : List ScriptGroup)
    (journal : List (Entry ServerNote)) : Type 0 where
  -- the handlers: of the type of handlers, for every terms
  pub acts : ActsAsServer m.means q.run
  pub names : NamesAsServer m.means q.run
  -- the terms, which are the caller's own: it goes by turns from the acceptor on, and has the idle
  -- time and the listener's story
  pub by_turn : q.run.by_turn ≡ Some 1
  pub idle_is : q.run.idle ≡ Some idle
  pub limit : q.run.limit ≡ Some None
  pub offers_are : q.run.offers ≡ Some (offers (steps_of groups))
  -- the net: that it tells its calls of its type, that they play the groups of the law of the trait
  pub plays : PlaysScript m q.run (groups_told groups)
  -- the loop: of `run_workers` with one worker
  pub run : List (Entry ServerNote)
  pub alone : RunsTo m q None at_first answer run
  -- the winding up: of `stop`, once the reactor was closed
  pub closing : List (Entry ServerNote)
  pub stops : StopAppends (summary (past_of run)) (summary (past_of run)).ended closing
  pub is : journal ≡ run ++ closing
  -- the journal: it is whole, since the stopped reactor stands for it and is over; nobody posted,
  -- and a net that never fails refused none
  pub whole : IsWhole q.run.most journal
  pub no_notice : list_any is_notice journal ≡ false
  pub no_fault : list_any is_fault journal ≡ false
  -- what it has of its script: of the net's calls and of the ends that it keeps
  pub follows : Follows (groups_told groups) journal
  pub turns : AreLeft (steps_of groups) idle (past_of journal)
