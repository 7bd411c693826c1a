-- The end of a queue at which bytes come out stays that end.
use Rattle.std.proofs.Common.{◌∙◌, Option, Some, None}
use Rattle.rtrb.specs.Ring.{SameConsumer}
use Rattle.write_behind.specs.Queues.{ByteConsumer, IsConsumerOf}

-- bytes came out
pub consumer_later : (first : Option ByteConsumer) (old new : ByteConsumer) → IsConsumerOf first old
    → SameConsumer old new → IsConsumerOf first new
consumer_later None old new t s = absurd t
consumer_later (Some first) old new t s =
    ((s.0.0 ∙ t.0.0, s.0.1 ∙ t.0.1, s.0.2 ∙ t.0.2, s.0.3 ∙ t.0.3), s.1 ∙ t.1)
