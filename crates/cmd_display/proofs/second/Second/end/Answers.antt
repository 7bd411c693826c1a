use Rattle.std.proofs.Common.{sym, ◌∙◌, ◌++◌, append-nil, []}
use Rattle.cmd_display.specs.Pipelines.{text_of}
use Rattle.cmd_display.proofs.Texts.{gathers-both}
use Rattle.cmd_display.proofs.second.Second.end.Goals as goal

pub returns-in-Ok-clause-ends : goal.returns-in-Ok-clause-ends
returns-in-Ok-clause-ends g c = λ second o fed h.
    let p = c.put_last-put.ensures.puts second o fed h in
    let whole = c.in-Ok.ensures.whole second p.put p.writes.lines p.writes.runs in record {
      put = p.put;
      follows = p.follows;
      stays = p.stays;
      lines = p.writes.lines ++ c.in-Ok.came;
      comes = ([], sym whole ∙ sym (append-nil (p.writes.lines ++ c.in-Ok.came)));
      gathers = gathers-both g.K.Sink.facts o _ p.writes.lines c.in-Ok.came
          (c.write_last.ensures.text o (text_of p.writes.lines) p.writes.gathers);
      nothing_held = c.write_last.ensures.nothing_held;
      all = λ e. let a = p.all e in (a.0, a.1, whole);
    }

pub returns-in-Err-clause-ends : goal.returns-in-Err-clause-ends
returns-in-Err-clause-ends g c = λ second o fed h.
    let p = c.put_last-put.ensures.puts second o fed h in record {
      put = p.put;
      follows = p.follows;
      stays = p.stays;
      lines = p.writes.lines ++ c.in-Err.came;
      comes = c.in-Err.ensures.front second p.put p.writes.lines p.writes.runs;
      gathers = gathers-both g.K.Sink.facts o _ p.writes.lines c.in-Err.came
          (c.write_last-in-Err.ensures.text o (text_of p.writes.lines) p.writes.gathers);
      nothing_held = c.write_last-in-Err.ensures.nothing_held;
      all = λ e. absurd (cc e);
    }
