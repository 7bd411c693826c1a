use Rattle.std.proofs.Common.{◌++◌}
use Rattle.cmd_display.specs.Pipelines.{text_of}
use Rattle.cmd_display.proofs.Texts.{gathers-both}
use Rattle.cmd_display.proofs.second.Second.put.Goals as goal

pub returns-in-Ok-clause-put : goal.returns-in-Ok-clause-put
returns-in-Ok-clause-put g c = λ second o fed h. record {
  lines = h.lines ++ c.in-Ok.came;
  runs = c.in-Ok.ensures.given second fed h.lines h.runs;
  gathers = gathers-both g.K.Sink.facts o _ h.lines c.in-Ok.came
      (c.write_messages.ensures.text o (text_of h.lines) h.gathers);
}

pub returns-clause-same : goal.returns-clause-same
returns-clause-same g c = λ second o fed h. record {
  lines = h.lines;
  runs = c.in-Err.ensures.unchanged second fed h.lines h.runs;
  gathers = h.gathers;
}
