use Rattle.cmd_display.proofs.Ending.{ended-ok, ended-err}
use Rattle.cmd_display.proofs.pipeline.Pipeline.end.Goals as goal

pub returns-in-Ok-clause-ends : goal.returns-in-Ok-clause-ends
returns-in-Ok-clause-ends g c = λ first second o put h.
    ended-ok g.F.Task.gives g.G.Task.gives g.K.Sink.facts first second o put c.in-Ok.texts
    c.args.all _ c.args.self _ (λ front texts runs.
    c.in-Ok.ensures.whole first front texts runs) (λ fed w. c.end.ensures.ends second o fed w) h

pub returns-in-Err-clause-ends : goal.returns-in-Err-clause-ends
returns-in-Err-clause-ends g c = λ first second o put h.
    ended-err g.F.Task.gives g.G.Task.gives g.K.Sink.facts first second o put c.in-Err.texts
    c.args.all _ c.args.self _ (λ front texts runs.
    c.in-Err.ensures.front first front texts runs)
    (λ fed w. c.end-lines.ensures.ends second o fed w) h
