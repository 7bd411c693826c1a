use Rattle.reactor_state.specs.State.{Shows, HasPlaces, IsPlaced}
use Rattle.std.proofs.Common.{ℕ, List}
use Rattle.ev_base.specs.Terms.{Terms}
use Rattle.reactor_model.specs.reactor_journal.specs.declared.entry.Entry.{Entry}
use Rattle.reactor_core.specs.Rest.{LeavesRest}
use Rattle.reactor_core.specs.Stands.{meaning, StandsQuiet}
use Rattle.reactor_core.specs.Removing.{RemovesSome}
use Rattle.reactor_core.proofs.reactor.Core.remove_all.Given as goal

abbrev pub invariant-loop-removed : goal.invariant-loop-removed
invariant-loop-removed g l =
    record {
      stands : (t : Terms) (F : ℕ) (h : List (Entry _))
          → StandsQuiet (meaning g.H.EventHandler.means g.M.Net.facts g.M.Net.keeps
          (Shows g.Q.TimerQueue.timers) (HasPlaces g.Q.TimerQueue.spare) IsPlaced g.W.Watch.stands
          g.W.Watch.faults g.W.Watch.is_broken g.W.Watch.whole g.V.Volumes.facts) t l.fn.self F h
          → RemovesSome (meaning g.H.EventHandler.means g.M.Net.facts g.M.Net.keeps
          (Shows g.Q.TimerQueue.timers) (HasPlaces g.Q.TimerQueue.spare) IsPlaced
          g.W.Watch.stands g.W.Watch.faults g.W.Watch.is_broken g.W.Watch.whole
          g.V.Volumes.facts) l._removed t F h l.self;
      rest : LeavesRest (meaning g.H.EventHandler.means g.M.Net.facts g.M.Net.keeps
          (Shows g.Q.TimerQueue.timers) (HasPlaces g.Q.TimerQueue.spare) IsPlaced g.W.Watch.stands
          g.W.Watch.faults g.W.Watch.is_broken g.W.Watch.whole g.V.Volumes.facts) l.fn.self l.self;
    }
