-- What a wait of the reactor leaves (C++NPv2 chapter 4, `ACE_Select_Reactor::handle_events`: timers
-- first, then input).
use Rattle.std.specs.Prelude.{ℕ, ◌≡◌, true, false, List, [], ◌∷◌, ◌++◌, map, filter, Option, Some}
use Rattle.std.specs.Prelude.{None}
use Rattle.ev_base.specs.Terms.{Terms}
use Rattle.ev_base.specs.Net.{NetFacts, NetWaits, Reserves}
use Rattle.ev_base.specs.declared.net.Report.{Report}
use Rattle.ev_base.specs.declared.net.Waited.{Waited}
use Rattle.ev_base.specs.declared.net.Waited.TheVariants as waited
use Rattle.reactor_model.specs.reactor_journal.specs.declared.entry.Entry.{Entry}
use Rattle.reactor_model.specs.reactor_journal.specs.declared.entry.Entry.TheVariants as entry
use Rattle.reactor_model.specs.reactor_journal.specs.Past.{past_of}
use Rattle.reactor_summary.specs.Summary.{Summary, summary, is_overdue, is_first_due}
use Rattle.reactor_state.specs.State.{after}
use Rattle.reactor_core.specs.Calls.{time_left, least_limit, is_taken}
use Rattle.reactor_model.specs.Entries.{IsAnsweredAt}
use Rattle.reactor_core.specs.Stands.{Meaning, Stands}
use Rattle.reactor_core.specs.declared.reactor.Core.{Core}
use Rattle.reactor_core.specs.declared.polling.Polled.{Polled}
use Rattle.reactor_core.specs.declared.polling.Polled.TheVariants as polled

-- if the terms have the limit of waits, it is this one
abbrev pub FitsLimit : Terms → Option ℕ → Type 0
FitsLimit t most = (limit : Option ℕ) → t.limit ≡ Some limit → most ≡ limit

-- what the answer of a wait is called; none if the wait failed
abbrev pub name_of : Waited → Option Polled
name_of (waited.Reports now count) = Some polled.Events
name_of (waited.Quiet now) = Some polled.Quiet
name_of (waited.Over now) = Some polled.Over
name_of waited.Failed = None

-- exactly the timers that come due, in order: while a deadline is reached, the first armed timer is
-- the next of them
abbrev pub AreDue : Summary → List ℕ → Type 0
AreDue s [] = is_overdue s ≡ false
AreDue s (timer ∷ rest) = (is_first_due s timer ≡ true) × AreDue (after s (entry.Due timer)) rest

-- the entries of a timer that comes due and of a report that is taken
abbrev pub due_of : {N : Type 0} → ℕ → Entry N
due_of timer = entry.Due timer

abbrev pub ready_of : {N : Type 0} → Report → Entry N
ready_of report = entry.Ready report.handle report.kind

-- One wait of the net was asked for the limit, and has the answer that is named. After its
-- `Polled` stand the timers that come due, and then the reports that are taken, one entry for each.
pub record WaitsOnce {H M Q W V N E : Type 0} (m : Meaning H M Q W V N E) (t : Terms) (F : ℕ)
    (h : List (Entry N)) (asked : Option ℕ) (polled : Polled) (net : NetFacts E)
    (new : Core H M Q W V N E) : Type 0 where
  pub answer : Waited
  pub now : ℕ
  pub timers : List ℕ
  pub waits : NetWaits net asked answer (m.facts new.net)
  pub named : name_of answer ≡ Some polled
  pub moment : IsAnsweredAt now answer
  pub due : AreDue (after (summary (past_of h)) (entry.Polled now)) timers
  pub stands : Stands m t new F (h ++ entry.Polled now
      ∷ (map due_of timers ++ map ready_of
      (filter (is_taken (summary (past_of h))) (m.facts new.net).reports)))

-- A poll is one wait, of a net that has more places and is else as it was, for the lesser of the
-- limit and the time to the first deadline.
pub record Polls {H M Q W V N E : Type 0} (m : Meaning H M Q W V N E) (t : Terms) (F : ℕ)
    (h : List (Entry N)) (most : Option ℕ) (polled : Polled) (old new : Core H M Q W V N E) : Type 0
  where
    pub net : NetFacts E
    pub reserves : Reserves (m.facts old.net) net
    pub waits : WaitsOnce m t F h (least_limit most (time_left (summary (past_of h)))) polled net
        new
