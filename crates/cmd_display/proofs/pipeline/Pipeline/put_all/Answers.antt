use Rattle.std.proofs.Common.{◌++◌, refl}
use Rattle.cmd_display.proofs.Lists.{begins-all}
use Rattle.cmd_display.proofs.Putting.{shows-on, front-on}
use Rattle.cmd_display.proofs.pipeline.Pipeline.put_all.Goals as goal

pub returns-in-Ok-clause-put : goal.returns-in-Ok-clause-put
returns-in-Ok-clause-put g c = λ first second o put h.
    shows-on g.F.Task.gives g.G.Task.gives g.K.Sink.facts first second o (put ++ c.args.messages)
    (h.texts ++ c.in-Ok.texts) c.put_all.new.self c.put_all-in-Ok.new.self
    c.put_all-in-Ok.result
    (c.in-Ok.ensures.given first put h.texts h.runs)
    (c.put_all-in-Ok.ensures.put second o h.texts h.writes)

pub returns-in-Ok-clause-front : goal.returns-in-Ok-clause-front
returns-in-Ok-clause-front g c = λ first second o put h.
    front-on g.F.Task.gives g.G.Task.gives g.K.Sink.facts first second o (put ++ c.args.messages)
    h.texts c.in-Ok.texts c.put_all.new.self c.put_all-in-Ok.new.self c.put_all-in-Ok.result
    (c.in-Ok.ensures.given first put h.texts h.runs)
    (c.put_all-in-Ok.ensures.front second o h.texts h.writes)

pub returns-clause-front : goal.returns-clause-front
returns-clause-front g c = λ first second o put h. record {
  front = put;
  begins = (c.args.messages, refl);
  texts = h.texts;
  fed = h.texts;
  runs = c.in-Err.ensures.unchanged first put h.texts h.runs;
  follows = begins-all h.texts;
  writes = h.writes;
}
