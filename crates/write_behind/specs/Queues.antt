-- Both ends of a queue of bytes.
use Rattle.std.specs.Prelude.{◌≡◌, ◌≤◌, ℕ, List, ◌++◌, length, take, Option, Some, None}
use Rattle.std.specs.declared.alloc.Global.{Global}
use Rattle.rtrb.specs.declared.AnyItems.{AnyItems}
use Rattle.rtrb.specs.declared.consumer.Consumer.{Consumer}
use Rattle.rtrb.specs.declared.producer.Producer.{Producer}
use Rattle.rtrb.specs.Ring.{IsPair, SameConsumer}
use Rattle.ev_base.specs.declared.sink.Wrote.{Wrote}
use Rattle.ev_base.specs.declared.sink.Wrote.TheVariants.{Bytes, Failed}

-- the end at which bytes come out
abbrev pub ByteConsumer : Type 0
ByteConsumer = Consumer ℕ Global AnyItems

-- the end at which they are put
abbrev pub ByteProducer : Type 0
ByteProducer = Producer ℕ Global AnyItems

-- it is that end, some bytes later
abbrev pub IsConsumerOf : Option ByteConsumer → ByteConsumer → Type 0
IsConsumerOf None consumer = ⊥
IsConsumerOf (Some first) consumer = SameConsumer first consumer

-- it is the other end of that one's queue
abbrev pub IsProducerOf : Option ByteConsumer → ByteProducer → Type 0
IsProducerOf None producer = ⊥
IsProducerOf (Some first) producer = IsPair producer first

-- what a write that was answered so added to what was put
abbrev pub PutsSo : List ℕ → List ℕ → Wrote → List ℕ → Type 0
PutsSo old piece (Bytes n) new = (1 ≤ n) × (n ≤ length piece) × (new ≡ old ++ take n piece)
PutsSo old piece Failed new = new ≡ old
