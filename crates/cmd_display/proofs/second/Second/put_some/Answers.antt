use Rattle.std.proofs.Common.{List, [], ◌++◌, refl, sym, subst, append-nil}
use Rattle.message_block.specs.Messages.{MessageState}
use Rattle.cmd_display.specs.Pipelines.{text_of, Prints}
use Rattle.cmd_display.proofs.Texts.{gathers-both}
use Rattle.cmd_display.proofs.second.Second.put_some.Goals as goal

pub returns-in-Ok-clause-put : goal.returns-in-Ok-clause-put
returns-in-Ok-clause-put g c = λ second o fed h. record {
  lines = h.lines ++ c.in-Ok.came;
  runs = c.in-Ok.ensures.given second fed h.lines h.runs;
  gathers = gathers-both g.K.Sink.facts o _ h.lines c.in-Ok.came
      (c.write_messages.ensures.text o (text_of h.lines) h.gathers);
}

pub returns-clause-front : goal.returns-clause-front
returns-clause-front g c = λ second o fed h. (
  [],
  (c.args.messages, refl),
  subst (λ (l : List MessageState). Prints g.G.Task.gives g.K.Sink.facts second o l
      (record c.args.self.now { task = c.put_all.new.self })) (sym (append-nil fed)) (record {
        lines = h.lines;
        runs = c.in-Err.ensures.unchanged second fed h.lines h.runs;
        gathers = h.gathers;
      }),
)
