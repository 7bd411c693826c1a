use Rattle.std.proofs.Common.{◌≡◌}
use Rattle.notify_ring.specs.Words.{drainer_ring}
use Rattle.reactor_core.specs.reactor_state.specs.State.{Shows, HasPlaces, IsPlaced}
use Rattle.reactor_core.specs.Stands.{meaning}
use Rattle.reactor_desk.specs.Desks.{FromDesk}
use Rattle.reactor_desk.specs.Draining.{IsRunning, DrainsSome, LeavesDrained}
use Rattle.reactor_desk.proofs.desk.Desk.drain.Given as goal

-- so many postings were taken so far, and each is recorded
abbrev pub invariant-loop-taken : goal.invariant-loop-taken
invariant-loop-taken g l =
    let m = meaning g.H.EventHandler.means g.M.Net.facts g.M.Net.keeps (Shows g.Q.TimerQueue.timers)
    (HasPlaces g.Q.TimerQueue.spare) IsPlaced g.W.Watch.stands g.W.Watch.faults
    g.W.Watch.is_broken g.W.Watch.whole g.V.Volumes.facts in
    record {
      some : FromDesk m l.fn.self (λ q F h. IsRunning h
          → DrainsSome m q F h l.taken l.fn.self l.self);
      ring : drainer_ring l.self.drainer ≡ drainer_ring l.fn.self.drainer;
      rest : LeavesDrained m l.fn.self l.self;
    }
