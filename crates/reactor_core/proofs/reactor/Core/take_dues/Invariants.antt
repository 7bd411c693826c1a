use Rattle.reactor_state.specs.State.{Shows, HasPlaces, IsPlaced}
use Rattle.std.proofs.Common.{◌≡◌, ℕ, List}
use Rattle.ev_base.specs.Terms.{Terms}
use Rattle.ev_base.specs.declared.net.Report.{Report}
use Rattle.reactor_model.specs.reactor_journal.specs.declared.entry.Entry.{Entry}
use Rattle.reactor_summary.specs.Summary.{Summary}
use Rattle.reactor_core.specs.Rest.{LeavesRest}
use Rattle.reactor_core.specs.Stands.{meaning}
use Rattle.reactor_core.specs.Taking.{IsTakingDues, HasTakenDues}
use Rattle.reactor_core.proofs.reactor.Core.take_dues.Given as goal

-- the timers that came due so far were taken, and at most so many are left
abbrev pub invariant-loop-left : goal.invariant-loop-left
invariant-loop-left g l =
    let m = meaning g.H.EventHandler.means g.M.Net.facts g.M.Net.keeps (Shows g.Q.TimerQueue.timers)
    (HasPlaces g.Q.TimerQueue.spare) IsPlaced g.W.Watch.stands g.W.Watch.faults
    g.W.Watch.is_broken g.W.Watch.whole g.V.Volumes.facts in
    record {
      dues : (t : Terms) (F : ℕ) (h : List (Entry g.row.H-Note.Denot)) (s : Summary) (events : ℕ)
          (pending : List Report) → IsTakingDues m s l.most events t l.fn.self F h pending
          → HasTakenDues m s l.left events t l.self F h pending;
      net : l.self.net ≡ l.fn.self.net;
      rest : LeavesRest (meaning g.H.EventHandler.means g.M.Net.facts g.M.Net.keeps
          (Shows g.Q.TimerQueue.timers) (HasPlaces g.Q.TimerQueue.spare) IsPlaced g.W.Watch.stands
          g.W.Watch.faults g.W.Watch.is_broken g.W.Watch.whole g.V.Volumes.facts) l.fn.self l.self;
    }

abbrev pub decreases-loop-left : goal.decreases-loop-left
decreases-loop-left g l = l.left
