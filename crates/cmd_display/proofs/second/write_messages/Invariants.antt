use Rattle.std.proofs.Common.{◌≡◌, ℕ, List, ◌++◌}
use Rattle.std.specs.Vec.Iter.{drain_items}
use Rattle.ev_base.specs.Sink.{SinkFacts}
use Rattle.sink_buffer.specs.Gathers.{Gathers}
use Rattle.cmd_display.specs.Pipelines.{text_of}
use Rattle.cmd_display.proofs.second.write_messages.Given as goal

abbrev pub invariant-loop-message : goal.invariant-loop-message
invariant-loop-message g l =
    ((o : SinkFacts) (put : List ℕ) → Gathers g.K.Sink.facts o l.fn.lines put
    → Gathers g.K.Sink.facts o l.lines (put ++ text_of l.yielded))
    × (l.yielded ++ drain_items l.message-iterator ≡ l.fn.messages)
