-- What a buffer before a lent sink stands for.
use Rattle.std.specs.Prelude.{◌≡◌, ℕ, List, true, false}
use Rattle.std.specs.Borrow.{GName}
use Rattle.ev_base.specs.Sink.{SinkFacts}
use Rattle.sink_buffer.specs.Written.{BreaksOff}
use Rattle.sink_buffer.specs.Gathers.{HoldsBack}
use Rattle.journal_text.specs.Held.{held_in}
use Rattle.journal_text.specs.declared.lent.buffer.LentBuffer.{LentBuffer}

-- It stands for all bytes that were put since its sink told the facts `start`: the sink took them
-- but for what is held back, or, once a write failed, a front of them.
pub record Gathers {K : Type 0} (facts : K → SinkFacts) (start : SinkFacts) (buffer : LentBuffer K)
    (put : List ℕ) : Type 0 where
  pub whole : buffer.broken ≡ false → HoldsBack start (held_in buffer.held) put
      (facts buffer.sink.now)
  pub front : buffer.broken ≡ true → BreaksOff start put (facts buffer.sink.now)

-- since when a text is counted: which sink was lent, and what it told then
pub record Since : Type 0 where
  pub lent : GName
  pub start : SinkFacts

-- what was put since then into the same sink
pub record HasPut {K : Type 0} (facts : K → SinkFacts) (since : Since) (buffer : LentBuffer K)
    (put : List ℕ) : Type 0 where
  pub same_reference : buffer.sink.ghost_name ≡ since.lent
  pub gathers : Gathers facts since.start buffer put
