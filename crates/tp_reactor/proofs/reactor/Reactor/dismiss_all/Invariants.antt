use Rattle.std.proofs.Common.{◌≡◌, ◌≤◌, ◌+◌, ◌++◌, All, length, true, vec_capacity}
use Rattle.std.specs.Vec.Iter.{into_iter_items}
use Rattle.notify_ring.specs.Words.{poster_view}
use Rattle.tp_reactor.specs.Hired.{MayLeave, ends_of, observers_of}
use Rattle.tp_reactor.specs.Pool.{Dismisses, WorkerEnd}
use Rattle.tp_reactor.specs.Words.{IsIdleWorker, IsOf, known_by, poster_of}
use Rattle.tp_reactor.proofs.reactor.Reactor.dismiss_all.Given as goal

abbrev pub invariant-loop-seat : goal.invariant-loop-seat
invariant-loop-seat g l = record {
  can : (goal.iterator-loop-seat g).can_next l.seat-iterator;
  finite : (goal.iterator-loop-seat g).is_finite l.seat-iterator;
  of : IsOf l.root l.fn.self;
  root : (known_by l.root).root ≡ true;
  idle : IsIdleWorker l.root;
  leave : All (λ x. MayLeave l.fn.self x) (into_iter_items l.seat-iterator);
  observers : l.observers.items ++ observers_of (into_iter_items l.seat-iterator)
      ≡ observers_of l.fn.hired.items;
  places : length l.observers.items + length (into_iter_items l.seat-iterator)
      ≤ vec_capacity l.observers;
  done : (left : WorkerEnd g.row.H-Note.Denot)
      → Dismisses (record {
        ran = l.first;
        known = known_by l.root;
        posted = poster_view (poster_of l.root);
      }) (ends_of (into_iter_items l.seat-iterator)) left
      → Dismisses (record {
        ran = l.fn.ran;
        known = known_by l.fn.root;
        posted = poster_view (poster_of l.fn.root);
      }) (ends_of l.fn.hired.items) left;
}
