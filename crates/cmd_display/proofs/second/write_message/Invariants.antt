use Rattle.std.proofs.Common.{ℕ, List, ◌++◌, take}
use Rattle.ev_base.specs.Sink.{SinkFacts}
use Rattle.sink_buffer.specs.Gathers.{Gathers}
use Rattle.message_block.specs.Messages.{bytes_in}
use Rattle.cmd_display.proofs.second.write_message.Given as goal

abbrev pub invariant-loop-block : goal.invariant-loop-block
invariant-loop-block g l = (o : SinkFacts) (put : List ℕ) → Gathers g.K.Sink.facts o l.fn.lines put
    → Gathers g.K.Sink.facts o l.lines (put ++ bytes_in (take l.block-index l.block-items))
