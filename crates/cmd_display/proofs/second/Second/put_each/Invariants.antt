use Rattle.std.proofs.Common.{◌≡◌, ◌++◌, List}
use Rattle.ev_base.specs.Sink.{SinkFacts}
use Rattle.message_block.specs.Messages.{MessageState}
use Rattle.module_stream.specs.Progress.{Gives}
use Rattle.cmd_display.specs.Pipelines.{Prints, StaysBroken}
use Rattle.cmd_display.proofs.second.Second.put_each.Given as goal

abbrev pub invariant-loop-message : goal.invariant-loop-message
invariant-loop-message g l =
    ((second : Gives) (o : SinkFacts) (fed : List MessageState)
    → Prints g.G.Task.gives g.K.Sink.facts second o fed l.fn.self
    → Prints g.G.Task.gives g.K.Sink.facts second o (fed ++ l.yielded) l.self)
    × (l.yielded ++ l.message-iterator.rest.items ≡ l.fn.messages)
    × StaysBroken l.fn.self.lines l.self.lines
