use Rattle.std.proofs.Common.{[]}
use Rattle.notify_ring.specs.Words.{drainer_ring}
use Rattle.test_messages.proofs.ring_desk.tests.a_posting_goes_into_the_journal.Given as goal

abbrev pub ghost-new : goal.ghost-new
ghost-new g a = (record { most = 0; ring = drainer_ring a.value.drainer }, [])
