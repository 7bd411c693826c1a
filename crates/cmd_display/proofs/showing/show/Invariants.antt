use Rattle.std.proofs.Common.{◌≡◌, ◌-◌}
use Rattle.ev_base.specs.Source.{SourceFacts}
use Rattle.ev_base.specs.Sink.{SinkFacts}
use Rattle.module_stream.specs.Progress.{Gives}
use Rattle.bounded_input.specs.Reading.{limit_of, count_of}
use Rattle.cmd_display.specs.Shown.{IsShowing}
use Rattle.cmd_display.proofs.showing.show.Given as goal

abbrev pub invariant-loop-pipeline : goal.invariant-loop-pipeline
invariant-loop-pipeline g l =
    ((i : SourceFacts) (first second : Gives) (o : SinkFacts)
    → IsShowing g.S.Source.facts g.F.Task.gives g.G.Task.gives g.K.Sink.facts i first second o
    l.fn.window l.fn.pipeline
    → IsShowing g.S.Source.facts g.F.Task.gives g.G.Task.gives g.K.Sink.facts i first second o
    l.window l.pipeline)
    × (limit_of l.window.input ≡ limit_of l.fn.window.input)

abbrev pub decreases-loop-pipeline : goal.decreases-loop-pipeline
decreases-loop-pipeline g l = limit_of l.window.input - count_of l.window.input
