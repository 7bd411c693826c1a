use Rattle.std.proofs.Common.{subst}
use Rattle.module_stream.specs.declared.active.Runner.{Runner}
use Rattle.module_stream.specs.Active.{RunsIn}
use Rattle.module_stream.proofs.active.ActiveTask.finish.Goals as goal

pub returns-in-Beside-clause-whole : goal.returns-in-Beside-clause-whole
returns-in-Beside-clause-whole g c = λ first put answered h.
    let before = subst (λ (r : Runner g.row.T.Denot). RunsIn g.T.Task.gives first put answered r)
    c.in-Beside.is h in
    c.finish.ensures.whole first put answered (c.end.ensures first put answered before)

pub returns-in-Beside-clause-front : goal.returns-in-Beside-clause-front
returns-in-Beside-clause-front g c = λ first put answered h.
    let before = subst (λ (r : Runner g.row.T.Denot). RunsIn g.T.Task.gives first put answered r)
    c.in-Beside.is h in
    c.finish.ensures.front first put answered (c.end.ensures first put answered before)
