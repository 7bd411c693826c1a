-- What the end of a run leaves of its reactor.
use Rattle.std.specs.Prelude.{ℕ, ◌≡◌, ◌≤◌, ◌^◌, Bool, true, false, List, [], length, Some}
use Rattle.ev_base.specs.Counts.{Rose}
use Rattle.ev_base.specs.Terms.{Terms}
use Rattle.tp_reactor.specs.timer_queue.specs.declared.timer.Timer.{Timer}
use Rattle.log_handler.specs.reactor_journal.specs.declared.entry.Entry.{Entry}
use Rattle.log_handler.specs.reactor_journal.specs.Follow.{Legal}
use Rattle.log_handler.specs.reactor_journal.specs.Past.{past_of}
use Rattle.tp_reactor.specs.reactor_summary.specs.Summary.{summary}
use Rattle.tp_reactor.specs.reactor_core.specs.Beginning.{IsShutDown, PartsStand}
use Rattle.tp_reactor.specs.reactor_core.specs.Ends.{WhereTold}
use Rattle.tp_reactor.specs.reactor_core.specs.Marks.{IsOverAt, answers}
use Rattle.tp_reactor.specs.reactor_core.specs.Stands.{Meaning, StandsWith}
use Rattle.tp_reactor.specs.reactor_core.specs.Views.{net_of, watch_of, volumes_of, over_of}
use Rattle.tp_reactor.specs.reactor_core.specs.declared.reactor.Core.{Core}
use Rattle.tp_reactor.specs.reactor_core.specs.declared.reactor.Parts.{Parts}
use Rattle.server_run.specs.Journals.{WindsUp}
use Rattle.server_run.specs.declared.ending.Ending.{Ending}
use Rattle.server_run.specs.declared.ending.Ending.TheVariants as ending

-- no upcall is on its way
abbrev pub NoneOpen : {N : Type 0} → List (Entry N) → Type 0
NoneOpen h = (summary (past_of h)).opens ≡ []

abbrev pub HasNoneOpen : {H M Q W V N E : Type 0} → Meaning H M Q W V N E → Core H M Q W V N E
    → Type 0
HasNoneOpen m core = StandsWith m (λ t h. NoneOpen h) core

-- how a run ended whose reactor was stopped for this cause, if its watch failed, or did not
abbrev pub named : Ending → Bool → Ending
named how true = ending.Broken
named how false = how

-- The parts of a reactor that stood for this list and was stopped: they stand for a journal that is
-- wound up, and legal, with at most 2^62 entries. If a wait was marked as over, and the net
-- tells its calls, the wait of that number was answered Over. If the watch failed, its count of
-- faults is above that of the output at the start, if the terms have it.
pub record Finishes {H M Q W V N E : Type 0} (m : Meaning H M Q W V N E) (armed : Q → List Timer)
    (t : Terms) (first : ℕ) (list : List (Entry N)) (core : Core H M Q W V N E)
    (parts : Parts N M Q W V) : Type 0 where
  pub journal : List (Entry N)
  pub winds : WindsUp list journal
  pub legal : Legal journal t.most
  pub bound : length journal ≤ 2 ^ 62
  pub over : IsShutDown (summary (past_of journal))
  pub stand : PartsStand m armed t first journal parts
  pub marked : 1 ≤ over_of core → WhereTold (λ calls. IsOverAt (over_of core) (answers calls))
      (m.facts parts.net).calls
  pub broken : (before : ℕ) → m.is_broken parts.watch ≡ true → t.output_faults ≡ Some before
      → Rose before (m.faults parts.watch)

-- its counts of faults are those of the reactor, but that of the watch, which has not fallen
pub record KeepsCounts {H M Q W V N E : Type 0} (m : Meaning H M Q W V N E)
    (core : Core H M Q W V N E) (parts : Parts N M Q W V) : Type 0 where
  pub waits : (m.facts parts.net).failed_waits ≡ (m.facts (net_of core)).failed_waits
  pub attaches : (m.facts parts.net).failed_attaches ≡ (m.facts (net_of core)).failed_attaches
  pub volumes : parts.volumes ≡ volumes_of core
  pub watch : m.faults (watch_of core) ≤ m.faults parts.watch
