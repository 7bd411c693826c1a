use Rattle.reactor_state.specs.State.{Shows, HasPlaces, IsPlaced}
use Rattle.std.proofs.Common.{◌≡◌, ◌≤◌, ℕ, List, filter}
use Rattle.ev_base.specs.Terms.{Terms}
use Rattle.reactor_model.specs.reactor_journal.specs.declared.entry.Entry.{Entry}
use Rattle.reactor_summary.specs.Summary.{Summary}
use Rattle.reactor_core.specs.Calls.{is_taken}
use Rattle.reactor_core.specs.Rest.{LeavesRest}
use Rattle.reactor_core.specs.Stands.{meaning}
use Rattle.reactor_core.specs.Taking.{IsTakingReports, HasTakenReports}
use Rattle.reactor_core.proofs.reactor.Core.take_reports.Given as goal

-- the reports so far were taken, so far as they are to be
abbrev pub invariant-loop-at : goal.invariant-loop-at
invariant-loop-at g l =
    let m = meaning g.H.EventHandler.means g.M.Net.facts g.M.Net.keeps (Shows g.Q.TimerQueue.timers)
    (HasPlaces g.Q.TimerQueue.spare) IsPlaced g.W.Watch.stands g.W.Watch.faults
    g.W.Watch.is_broken g.W.Watch.whole g.V.Volumes.facts in
    record {
      stands : (t : Terms) (F : ℕ) (h : List (Entry g.row.H-Note.Denot)) (s : Summary) (left : ℕ)
          → IsTakingReports m s left t l.fn.self F h
          (filter (is_taken s) (g.M.Net.facts l.fn.self.net).reports) → l.count ≤ left
          → HasTakenReports m s (g.M.Net.facts l.fn.self.net).reports l.at t l.self F h;
      net : l.self.net ≡ l.fn.self.net;
      rest : LeavesRest (meaning g.H.EventHandler.means g.M.Net.facts g.M.Net.keeps
          (Shows g.Q.TimerQueue.timers) (HasPlaces g.Q.TimerQueue.spare) IsPlaced g.W.Watch.stands
          g.W.Watch.faults g.W.Watch.is_broken g.W.Watch.whole g.V.Volumes.facts) l.fn.self l.self;
    }
