use Rattle.std.proofs.Common.{◌≡◌, length}
use Rattle.ev_base.specs.Source.{SourceFacts}
use Rattle.ev_base.specs.Sink.{SinkFacts}
use Rattle.module_stream.specs.Progress.{Gives}
use Rattle.cmd_display.specs.Windows.{rest_of}
use Rattle.cmd_display.specs.Shown.{IsShowing}
use Rattle.cmd_display.proofs.showing.put_records.Given as goal

abbrev pub invariant-loop-cut : goal.invariant-loop-cut
invariant-loop-cut g l =
    ((i : SourceFacts) (first second : Gives) (o : SinkFacts)
    → IsShowing g.S.Source.facts g.F.Task.gives g.G.Task.gives g.K.Sink.facts i first second o
    l.fn.window l.fn.pipeline
    → IsShowing g.S.Source.facts g.F.Task.gives g.G.Task.gives g.K.Sink.facts i first second o
    l.window l.pipeline)
    × (l.window.input ≡ l.fn.window.input)

abbrev pub decreases-loop-cut : goal.decreases-loop-cut
decreases-loop-cut g l = length (rest_of l.window)
