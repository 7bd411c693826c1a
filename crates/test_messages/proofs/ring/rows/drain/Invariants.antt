use Rattle.std.proofs.Common.{◌≡◌}
use Rattle.notify_ring.specs.Words.{drainer_ring, drainer_view}
use Rattle.test_messages.proofs.ring.rows.drain.Given as goal

abbrev pub invariant-loop : goal.invariant-loop
invariant-loop l = record {
  ring : drainer_ring l.drainer ≡ drainer_ring l.fn.drainer;
  taken : l.taken.items ≡ (drainer_view l.drainer).got;
}
