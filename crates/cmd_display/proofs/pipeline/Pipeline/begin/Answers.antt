use Rattle.std.proofs.Common.{[]}
use Rattle.cmd_display.proofs.pipeline.Pipeline.begin.Goals as goal

pub returns-in-Ok-begin-clause-begins : goal.returns-in-Ok-begin-clause-begins
returns-in-Ok-begin-clause-begins g c = record {
  texts = [];
  runs = c.in-Ok.ensures.runs;
  writes = record {
    lines = [];
    runs = c.in-Ok-begin.ensures.runs;
    gathers = c.new-lines.ensures.text;
  };
}
