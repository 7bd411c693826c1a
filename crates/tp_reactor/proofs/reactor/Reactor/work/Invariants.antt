use Rattle.std.proofs.Common.{◌≡◌, ◌<◌, ◌≤◌, ◌+◌, ◌^◌, cond, length, true}
use Rattle.reactor_core.specs.reactor_state.specs.State.{Shows, HasPlaces, IsPlaced}
use Rattle.reactor_core.specs.Stands.{meaning}
use Rattle.tp_reactor.specs.Words.{posted_of, known_by, IsOf, SameKin}
use Rattle.tp_reactor.specs.Observed.{loop_of}
use Rattle.tp_reactor.proofs.Observed.{RoundsLed}
use Rattle.tp_reactor.proofs.reactor.Reactor.work.Given as goal

abbrev pub invariant-loop : goal.invariant-loop
invariant-loop g l =
    record {
      can : (goal.iterator-loop g).can_next l.iterator';
      finite : (goal.iterator-loop g).is_finite l.iterator';
      of : IsOf l.worker l.fn.self;
      kin : SameKin (known_by l.fn.worker) (known_by l.worker);
      rounds : RoundsLed (meaning g.H.EventHandler.means g.M.Net.facts g.M.Net.keeps
          (Shows g.Q.TimerQueue.timers) (HasPlaces g.Q.TimerQueue.spare) IsPlaced g.W.Watch.stands
          g.W.Watch.faults g.W.Watch.is_broken g.W.Watch.whole g.V.Volumes.facts)
          g.O.Observer.observes l.fn.most_ms l.fn.until (loop_of l.fn.worker l.fn.observer) l.led
          (loop_of l.worker l.observer);
      room : l.owes_notice ≡ true → length (posted_of l.worker) < 2 ^ 56;
      once : length (posted_of l.worker) + cond l.owes_notice 1 0
          ≤ length (posted_of l.fn.worker) + cond l.fn.owes_notice 1 0;
    }
