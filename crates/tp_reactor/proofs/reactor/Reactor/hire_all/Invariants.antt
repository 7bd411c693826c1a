use Rattle.std.proofs.Common.{◌≡◌, ◌≤◌, ◌+◌, ◌++◌, length, vec_capacity, vec_len}
use Rattle.notify_ring.specs.Words.{poster_view}
use Rattle.tp_reactor.specs.Hired.{AreHired, observers_of}
use Rattle.tp_reactor.specs.Pool.{hirer, hirer_posted}
use Rattle.tp_reactor.specs.Words.{IsOf, known_by, poster_of}
use Rattle.tp_reactor.proofs.reactor.Reactor.hire_all.Given as goal

abbrev pub invariant-loop-root : goal.invariant-loop-root
invariant-loop-root g l = record {
  of : IsOf l.root l.fn.self;
  known : known_by l.root ≡ hirer (known_by l.fn.root) (length l.hired.items);
  posted : poster_view (poster_of l.root)
      ≡ hirer_posted (poster_view (poster_of l.fn.root)) (length l.hired.items);
  hired : AreHired l.fn.self (known_by l.fn.root) (poster_view (poster_of l.fn.root)) 0
      l.hired.items;
  observers : observers_of l.hired.items ++ l.observers.items ≡ l.fn.observers.items;
  few : (poster_view (poster_of l.fn.root)).posters + (length l.hired.items
      + length l.observers.items) ≤ 64;
  places : length l.hired.items + length l.observers.items ≤ vec_capacity l.hired;
  capacity : vec_capacity l.observers ≡ vec_capacity l.fn.observers;
}

abbrev pub decreases-loop-root : goal.decreases-loop-root
decreases-loop-root g l = vec_len l.observers
