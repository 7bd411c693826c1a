-- What contracts see of a writer.
use Rattle.std.specs.Prelude.{Bool}
use Rattle.write_behind.specs.Queues.{ByteConsumer}

-- the sink below, the end of the queue that it writes out, and whether no write failed
pub record WriterState (K : Type 0) : Type 0 where
  pub sink : K
  pub consumer : ByteConsumer
  pub whole : Bool
