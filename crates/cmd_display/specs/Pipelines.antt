-- Two active tasks one after the other, and the sink after them (C++NPv2 chapter 9: streams of
-- modules with active tasks).
use Rattle.std.specs.Prelude.{◌≡◌, ℕ, Bool, true, false, List, [], ◌++◌, flat_map}
use Rattle.ev_base.specs.Sink.{SinkFacts}
use Rattle.sink_buffer.specs.declared.buffer.SinkBuffer.{SinkBuffer}
use Rattle.sink_buffer.specs.Gathers.{Gathers, held_of, is_broken}
use Rattle.message_block.specs.Messages.{MessageState, bytes_of}
use Rattle.module_stream.specs.Progress.{Gives, Begins}
use Rattle.module_stream.specs.Active.{Runs}
use Rattle.cmd_display.specs.declared.second.Second.{Second}
use Rattle.cmd_display.specs.declared.pipeline.Pipeline.{Pipeline}

-- the bytes of messages, joined
abbrev pub text_of : List MessageState → List ℕ
text_of messages = flat_map bytes_of messages

-- These messages were put into the second task, which gave `second` when it began. The bytes of all
-- that came out were put into the sink since it told the facts o.
pub record Prints {G K : Type 0} (gives : G → Gives) (facts : K → SinkFacts) (second : Gives)
    (o : SinkFacts) (fed : List MessageState) (task : Second G K) : Type 0 where
  pub lines : List MessageState
  pub runs : Runs gives second fed lines task.task
  pub gathers : Gathers facts o task.lines (text_of lines)

-- these messages were put into the first task, and what came out of it into the second
pub record Shows {F G K : Type 0} (gives : F → Gives) (gives' : G → Gives) (facts : K → SinkFacts)
    (first second : Gives) (o : SinkFacts) (put : List MessageState)
    (pipeline : Pipeline F G K) : Type 0 where
  pub texts : List MessageState
  pub runs : Runs gives first put texts pipeline.first
  pub writes : Prints gives' facts second o texts pipeline.second

-- A front of these messages was put into the first task, and a front of what came out of it into
-- the second: there was no memory for the next.
pub record ShowsFront {F G K : Type 0} (gives : F → Gives) (gives' : G → Gives)
    (facts : K → SinkFacts) (first second : Gives) (o : SinkFacts) (put : List MessageState)
    (pipeline : Pipeline F G K) : Type 0 where
  pub front : List MessageState
  pub begins : Begins front put
  pub texts : List MessageState
  pub fed : List MessageState
  pub runs : Runs gives first front texts pipeline.first
  pub follows : Begins fed texts
  pub writes : Prints gives' facts second o fed pipeline.second

-- If these messages follow what was put into the second task, a front of both was put; else what
-- was put before. If it was whole all were put.
pub record PutsLast {G K : Type 0} (gives : G → Gives) (facts : K → SinkFacts) (second : Gives)
    (o : SinkFacts) (fed messages : List MessageState) (follow whole : Bool)
    (task : Second G K) : Type 0 where
  pub put : List MessageState
  pub follows : Begins put (fed ++ messages)
  pub stays : follow ≡ false → put ≡ fed
  pub writes : Prints gives facts second o put task
  pub all : whole ≡ true → (follow ≡ true) × (put ≡ fed ++ messages)

-- The second task has ended. If these messages follow what was put before, a front of both was
-- put; else what was put before. What came out was put into the sink, where nothing is held back,
-- and is a front of what it gives for that. If it was whole it is all.
pub record WritesLast {K : Type 0} (facts : K → SinkFacts) (second : Gives) (o : SinkFacts)
    (fed messages : List MessageState) (follow whole : Bool) (sink : SinkBuffer K) : Type 0 where
  pub put : List MessageState
  pub follows : Begins put (fed ++ messages)
  pub stays : follow ≡ false → put ≡ fed
  pub lines : List MessageState
  pub comes : Begins lines (second put)
  pub gathers : Gathers facts o sink (text_of lines)
  pub nothing_held : is_broken sink ≡ false → held_of sink ≡ []
  pub all : whole ≡ true → (follow ≡ true) × (put ≡ fed ++ messages) × (lines ≡ second put)

-- Both tasks have ended. What came out of the second was put into the sink, where nothing is held
-- back; it is a front of what it gives for a front of what the first gives for these messages, or a
-- front of them, and if it was whole, it is all.
pub record HasEnded {K : Type 0} (facts : K → SinkFacts) (first second : Gives) (o : SinkFacts)
    (put : List MessageState) (whole : Bool) (sink : SinkBuffer K) : Type 0 where
  pub front : List MessageState
  pub begins : Begins front put
  pub fed : List MessageState
  pub follows : Begins fed (first front)
  pub lines : List MessageState
  pub comes : Begins lines (second fed)
  pub gathers : Gathers facts o sink (text_of lines)
  pub nothing_held : is_broken sink ≡ false → held_of sink ≡ []
  pub all : whole ≡ true → (front ≡ put) × (fed ≡ first front) × (lines ≡ second fed)

-- Whatever messages were put: all of them, or, if one was lost for want of memory, a front of
-- them.
abbrev pub ArePut : {F G K : Type 0} → (F → Gives) → (G → Gives) → (K → SinkFacts) → Gives → Gives
    → SinkFacts → List MessageState → Bool → Pipeline F G K → Type 0
ArePut gives gives' facts first second o put true pipeline =
    Shows gives gives' facts first second o put pipeline
ArePut gives gives' facts first second o put false pipeline =
    ShowsFront gives gives' facts first second o put pipeline

-- a sink in which a write failed is not touched
abbrev pub StaysBroken : {K : Type 0} → SinkBuffer K → SinkBuffer K → Type 0
StaysBroken old new = is_broken old ≡ true → new ≡ old
