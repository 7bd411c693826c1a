use Rattle.std.proofs.Common.{Some}
use Rattle.write_behind.proofs.tests.put_all_behind.Given as goal

abbrev pub ghosts-put_behind : goal.ghosts-put_behind
ghosts-put_behind g a = record { facts = g.K.Sink.facts a.sink; consumer = Some a.queue.consumer }
