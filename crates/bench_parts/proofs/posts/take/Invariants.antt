use Rattle.std.proofs.Common.{◌≡◌}
use Rattle.notify_ring.specs.Words.{drainer_ring}
use Rattle.bench_parts.proofs.posts.take.Given as goal

abbrev pub invariant-loop : goal.invariant-loop
invariant-loop l = drainer_ring l.drainer ≡ drainer_ring l.fn.drainer
