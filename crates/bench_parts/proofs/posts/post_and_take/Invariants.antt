use Rattle.std.proofs.Common.{◌≡◌}
use Rattle.notify_ring.specs.Words.{poster_ring, drainer_ring}
use Rattle.bench_parts.proofs.posts.post_and_take.Given as goal

abbrev pub invariant-loop : goal.invariant-loop
invariant-loop l = record {
  poster : poster_ring l.poster ≡ poster_ring l.initial.poster;
  drainer : drainer_ring l.drainer ≡ drainer_ring l.initial.drainer;
}
