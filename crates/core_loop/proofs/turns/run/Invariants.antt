use Rattle.std.specs.Prelude.{◌≡◌, None}
use Rattle.reactor_core.specs.reactor_state.specs.State.{Shows, HasPlaces, IsPlaced}
use Rattle.reactor_core.specs.Faults.{HasNotFallen}
use Rattle.reactor_core.specs.Stands.{meaning}
use Rattle.reactor_core.specs.Views.{net_of, over_of, volumes_of}
use Rattle.core_loop.specs.Idle.{IsIdle, StaysWithin}
use Rattle.core_loop.specs.Leading.{LeadsWithin, RunsSo}
use Rattle.core_loop.proofs.turns.run.Given as goal

abbrev pub invariant-loop : goal.invariant-loop
invariant-loop g l = record {
  idle : IsIdle (meaning g.H.EventHandler.means g.M.Net.facts g.M.Net.keeps
      (Shows g.Q.TimerQueue.timers) (HasPlaces g.Q.TimerQueue.spare) IsPlaced g.W.Watch.stands
      g.W.Watch.faults g.W.Watch.is_broken g.W.Watch.whole g.V.Volumes.facts) l.core;
  within : StaysWithin (meaning g.H.EventHandler.means g.M.Net.facts g.M.Net.keeps
      (Shows g.Q.TimerQueue.timers) (HasPlaces g.Q.TimerQueue.spare) IsPlaced g.W.Watch.stands
      g.W.Watch.faults g.W.Watch.is_broken g.W.Watch.whole g.V.Volumes.facts) l.most_ms l.fn.core
      l.core;
  leads : LeadsWithin (meaning g.H.EventHandler.means g.M.Net.facts g.M.Net.keeps
      (Shows g.Q.TimerQueue.timers) (HasPlaces g.Q.TimerQueue.spare) IsPlaced g.W.Watch.stands
      g.W.Watch.faults g.W.Watch.is_broken g.W.Watch.whole g.V.Volumes.facts) l.most_ms
      (RunsSo g.H.EventHandler.means l.until None (over_of l.core)) l.fn.core l.core;
  volumes : (g.V.Volumes.facts (volumes_of l.core)).faults
      ≡ (g.V.Volumes.facts (volumes_of l.fn.core)).faults;
  waits : HasNotFallen (g.M.Net.facts (net_of l.fn.core)).failed_waits
      (g.M.Net.facts (net_of l.core)).failed_waits;
}
