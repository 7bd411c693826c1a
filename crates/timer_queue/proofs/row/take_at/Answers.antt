use Rattle.std.proofs.Common.{drop, ap, ◌∙◌, arith}
use Rattle.timer_queue.proofs.Rows.{remove_behind}
use Rattle.timer_queue.proofs.row.take_at.Goals as goal

pub returns-clause-items : goal.returns-clause-items
returns-clause-items c = ap (λ xs. drop c.args.head xs) c.remove.ensures.items
    ∙ remove_behind c.args.timers.now.items c.args.head c.args.place (omega (arith, c.requires))
