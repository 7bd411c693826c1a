use Rattle.std.proofs.Common.{◌≡◌}
use Rattle.notify_ring.specs.Words.{poster_ring, poster_view}
use Rattle.test_messages.proofs.ring.rows.post_many.Given as goal

abbrev pub invariant-loop : goal.invariant-loop
invariant-loop l = record {
  ring : poster_ring l.poster ≡ poster_ring l.fn.poster;
  root : (poster_view l.poster).root ≡ (poster_view l.fn.poster).root;
  posters : (poster_view l.poster).posters ≡ (poster_view l.fn.poster).posters;
  children : (poster_view l.poster).children ≡ (poster_view l.fn.poster).children;
}
