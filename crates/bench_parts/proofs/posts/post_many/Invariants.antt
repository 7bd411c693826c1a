use Rattle.std.proofs.Common.{◌≡◌}
use Rattle.notify_ring.specs.Words.{poster_ring}
use Rattle.bench_parts.proofs.posts.post_many.Given as goal

abbrev pub invariant-loop : goal.invariant-loop
invariant-loop l = poster_ring l.poster ≡ poster_ring l.fn.poster
