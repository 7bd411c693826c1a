use Rattle.std.proofs.Common.{List, ◌++◌, sym, ap, ◌∙◌, subst, append-nil}
use Rattle.message_block.specs.Messages.{MessageState}
use Rattle.module_stream.specs.declared.active.Runner.{Runner}
use Rattle.module_stream.specs.Progress.{Progress}
use Rattle.module_stream.specs.Active.{RunsIn}
use Rattle.module_stream.proofs.active.ActiveTask.put_all.Goals as goal

pub returns-in-Here-clause-given : goal.returns-in-Here-clause-given
returns-in-Here-clause-given g c = λ first put answered h.
    let before = subst (λ (r : Runner g.row.T.Denot). RunsIn g.T.Task.gives first put answered r)
    c.in-Here.is h in
    let here = c.put_all-in-Here.new.self in
    subst (λ (l : List MessageState). Progress first (put ++ c.args.messages) l here.lost
    (g.T.Task.gives here.task))
    (ap (λ (l : List MessageState). answered ++ l) (sym c.new.ensures)
    ∙ sym (append-nil (answered ++ c.new.result))
    ∙ ap (λ (l : List MessageState). (answered ++ c.new.result) ++ l)
    (sym c.put_all-in-Here.ensures.held))
    (subst (λ (l : List MessageState).
    Progress first (put ++ l) (answered ++ c.put_all-in-Here.result.items) here.lost
    (g.T.Task.gives here.task)) c.into_vec.ensures
    (c.put_all-in-Here.ensures.given first put answered before))
