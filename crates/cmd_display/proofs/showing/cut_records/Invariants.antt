use Rattle.std.proofs.Common.{◌≡◌, ◌≤◌, ◌+◌, ◌-◌, ◌++◌, List, length, vec_len}
use Rattle.ev_base.specs.Source.{SourceFacts}
use Rattle.ev_base.specs.Sink.{SinkFacts}
use Rattle.message_block.specs.Messages.{MessageState}
use Rattle.module_stream.specs.Progress.{Gives}
use Rattle.cmd_display.specs.Windows.{rest_of}
use Rattle.cmd_display.specs.Pipelines.{Shows}
use Rattle.cmd_display.specs.Shown.{HasCut}
use Rattle.cmd_display.proofs.showing.cut_records.Given as goal

-- what was cut so far
abbrev pub invariant-loop-alloc : goal.invariant-loop-alloc
invariant-loop-alloc g l =
    ((i : SourceFacts) (put : List MessageState) → HasCut g.S.Source.facts i put l.fn.window
    → HasCut g.S.Source.facts i (put ++ l.messages.items) l.window)
    × ((first second : Gives) (o : SinkFacts) (put : List MessageState)
    → Shows g.F.Task.gives g.G.Task.gives g.K.Sink.facts first second o put l.fn.pipeline
    → Shows g.F.Task.gives g.G.Task.gives g.K.Sink.facts first second o put l.pipeline)
    × (l.window.input ≡ l.fn.window.input)
    × (vec_len l.messages ≤ 64)
    × (length (rest_of l.window) + vec_len l.messages ≤ length (rest_of l.fn.window))

abbrev pub decreases-loop-alloc : goal.decreases-loop-alloc
decreases-loop-alloc g l = 64 - vec_len l.messages
