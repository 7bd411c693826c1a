use Rattle.module_stream.proofs.Rows.{HasFinished}
use Rattle.module_stream.proofs.row.finish_through.Given as goal

-- the tasks before the place were finished
abbrev pub invariant-loop-place : goal.invariant-loop-place
invariant-loop-place g l =
    HasFinished (λ task. (goal.Task-dyn g (task.vtable, task.value)).gives task.value)
    l.initial.tasks l.tasks l.place l.fn.messages.items l.messages.items
