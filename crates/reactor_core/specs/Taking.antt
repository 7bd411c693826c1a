-- What holds while the entries of a wait are appended.
use Rattle.std.specs.Prelude.{ℕ, ◌≡◌, ◌≤◌, ◌+◌, true, false, List, [], ◌∷◌, ◌++◌, map, filter}
use Rattle.std.specs.Prelude.{length, drop, Option, Some, None}
use Rattle.ev_base.specs.Terms.{Terms}
use Rattle.ev_base.specs.declared.net.Report.{Report}
use Rattle.ev_base.specs.declared.net.Waited.{Waited}
use Rattle.ev_base.specs.declared.net.Waited.TheVariants.{Reports, Quiet, Over, Failed}
use Rattle.reactor_model.specs.reactor_journal.specs.declared.entry.Entry.{Entry}
use Rattle.reactor_model.specs.reactor_journal.specs.declared.entry.Entry.TheVariants.{Polled}
use Rattle.reactor_model.specs.reactor_journal.specs.Past.{past_of}
use Rattle.reactor_model.specs.reactor_journal.specs.Follow.{follows_due, follows_ready}
use Rattle.reactor_summary.specs.Summary.{Summary, summary, some_wait, is_overdue}
use Rattle.reactor_state.specs.declared.places.Places.{Places}
use Rattle.reactor_core.specs.Calls.{is_taken, IsAskedFor}
use Rattle.reactor_core.specs.Stands.{Meaning, Tracks, HasRoom, Stands}
use Rattle.reactor_core.specs.Polling.{AreDue, due_of, ready_of}
use Rattle.reactor_core.specs.declared.reactor.Core.{Core}

-- the moment of a wait, none if it failed, and how many reports it has
abbrev pub moment_of : Waited → Option ℕ
moment_of (Reports now count) = Some now
moment_of (Quiet now) = Some now
moment_of (Over now) = Some now
moment_of Failed = None

abbrev pub count_of : Waited → ℕ
count_of (Reports now count) = count
count_of _ = 0

-- places for so many timeouts and other events
abbrev pub event_places : ℕ → ℕ → Places
event_places timers events = record {
  handles = 0;
  timers = 0;
  timeouts = timers;
  events = events;
  opens = 0;
}

-- The core tracks the history, with these reports still to be taken; no handle waits for its close,
-- the reactor was not stopped, the handles are those of the summary s, and there is room for the
-- entries of so many timers and reports.
pub record IsTaking {H M Q W V N E : Type 0} (m : Meaning H M Q W V N E) (s : Summary)
    (timers events : ℕ) (t : Terms) (core : Core H M Q W V N E) (F : ℕ) (h : List (Entry N))
    (pending : List Report) : Type 0 where
  pub tracks : Tracks m t core F h None pending
  pub none_waits : some_wait (summary (past_of h)) ≡ false
  pub going : (summary (past_of h)).ended ≡ false
  pub handles : (summary (past_of h)).handles ≡ s.handles
  pub room : HasRoom m (timers + events) (event_places timers events) core (summary (past_of h))

-- a timer may come due, of at most so many
pub record IsTakingDues {H M Q W V N E : Type 0} (m : Meaning H M Q W V N E) (s : Summary)
    (left events : ℕ) (t : Terms) (core : Core H M Q W V N E) (F : ℕ) (h : List (Entry N))
    (pending : List Report) : Type 0 where
  pub taking : IsTaking m s left events t core F h pending
  pub follows : follows_due (past_of h) ≡ true
  pub few : length (summary (past_of h)).armed ≤ left

-- so many reports may be taken: no armed deadline is reached any more
pub record IsTakingReports {H M Q W V N E : Type 0} (m : Meaning H M Q W V N E) (s : Summary)
    (left : ℕ) (t : Terms) (core : Core H M Q W V N E) (F : ℕ) (h : List (Entry N))
    (pending : List Report) : Type 0 where
  pub taking : IsTaking m s 0 left t core F h pending
  pub follows : follows_ready (past_of h) ≡ true
  pub none_due : is_overdue (summary (past_of h)) ≡ false

-- a wait may be made: with that limit, and room for so many timers and 256 reports
pub record MayWait {H M Q W V N E : Type 0} (m : Meaning H M Q W V N E) (armed : ℕ)
    (asked : Option ℕ) (t : Terms) (core : Core H M Q W V N E) (F : ℕ) (h : List (Entry N)) : Type 0
  where
    pub stands : Stands m t core F h
    pub going : (summary (past_of h)).ended ≡ false
    pub asked_for : IsAskedFor t.limit (summary (past_of h)) asked
    pub few : length (summary (past_of h)).armed ≤ armed
    pub room : HasRoom m (armed + 257) (event_places armed 256) core (summary (past_of h))

-- what a wait gives if it was answered at a moment: its `Polled` was appended, and its entries
-- may be
abbrev pub WaitGives : {H M Q W V N E : Type 0} → Meaning H M Q W V N E → ℕ → Terms → ℕ
    → List (Entry N) → Option ℕ → Core H M Q W V N E → Type 0
WaitGives m armed t F h None new = Unit {0}
WaitGives m armed t F h (Some now) new =
    IsTakingDues m (summary (past_of h)) armed 256 t new F (h ++ Polled now ∷ [])
    (filter (is_taken (summary (past_of h))) (m.facts new.net).reports)

-- the timers that had come due so far, and what is left of them to come
pub record HasTakenDues {H M Q W V N E : Type 0} (m : Meaning H M Q W V N E) (s : Summary)
    (left events : ℕ) (t : Terms) (core : Core H M Q W V N E) (F : ℕ) (h : List (Entry N))
    (pending : List Report) : Type 0 where
  pub timers : List ℕ
  pub due : (rest : List ℕ) → AreDue (summary (past_of (h ++ map due_of timers))) rest
      → AreDue (summary (past_of h)) (timers ++ rest)
  pub taking : IsTakingDues m s left events t core F (h ++ map due_of timers) pending

-- all timers that come due were taken
pub record TakesDues {H M Q W V N E : Type 0} (m : Meaning H M Q W V N E) (s : Summary) (events : ℕ)
    (t : Terms) (core : Core H M Q W V N E) (F : ℕ) (h : List (Entry N))
    (pending : List Report) : Type 0 where
  pub timers : List ℕ
  pub due : AreDue (summary (past_of h)) timers
  pub taking : IsTakingReports m s events t core F (h ++ map due_of timers) pending

-- of the reports, those before a place were taken, so far as they are to be
pub record HasTakenReports {H M Q W V N E : Type 0} (m : Meaning H M Q W V N E) (s : Summary)
    (reports : List Report) (at : ℕ) (t : Terms) (core : Core H M Q W V N E) (F : ℕ)
    (h : List (Entry N)) : Type 0 where
  pub taken : List Report
  pub left : ℕ
  pub all : filter (is_taken s) reports ≡ taken ++ filter (is_taken s) (drop at reports)
  pub few : length (drop at reports) ≤ left
  pub taking : IsTakingReports m s left t core F (h ++ map ready_of taken)
      (filter (is_taken s) (drop at reports))
