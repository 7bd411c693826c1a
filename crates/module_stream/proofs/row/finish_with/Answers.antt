use Rattle.std.proofs.Common.{◌≡◌, List, [], ◌++◌, ◌∙◌, sym, ap, subst, append-nil, IfOk}
use Rattle.message_block.specs.Messages.{MessageState}
use Rattle.module_stream.proofs.row.finish_with.Goals as goal

-- what comes out now, and then what was held back
pub returns : goal.returns
returns g c =
    let whole =
    ap (λ l. c.in_ok-out.out.items ++ l) (c.into_vec-held.ensures ∙ c.in_ok-end.ensures)
    ∙ (sym (c.in_ok-out.ensures [])
    ∙ ap (λ l. (goal.Task-dyn g (c.args.task.now.vtable, c.args.task.now.value)).gives
    c.args.task.now.value l) (append-nil c.args.messages.items)) in
    subst (λ (l : List MessageState). IfOk c.joined.result (λ all. all.items ≡ l)) whole
    c.joined.ensures
