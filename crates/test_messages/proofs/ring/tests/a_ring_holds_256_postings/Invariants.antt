use Rattle.std.proofs.Common.{◌≡◌}
use Rattle.notify_ring.specs.Words.{poster_ring, poster_view, drainer_ring}
use Rattle.test_messages.proofs.ring.tests.a_ring_holds_256_postings.Given as goal

abbrev pub invariant-loop-number : goal.invariant-loop-number
invariant-loop-number g l = record {
  ring : poster_ring l.root ≡ poster_ring l.initial.root;
  root : (poster_view l.root).root ≡ (poster_view l.initial.root).root;
  posters : (poster_view l.root).posters ≡ (poster_view l.initial.root).posters;
  children : (poster_view l.root).children ≡ (poster_view l.initial.root).children;
}

abbrev pub invariant-loop-number-2 : goal.invariant-loop-number-2
invariant-loop-number-2 g l = drainer_ring l.drainer ≡ drainer_ring l.initial.drainer
