use Rattle.module_stream.specs.Composition.{Comes}
use Rattle.module_stream.proofs.row.put_all.Given as goal

-- what was put so far gave what came out so far
abbrev pub invariant-loop-message : goal.invariant-loop-message
invariant-loop-message g l =
    Comes ((goal.Task-dyn g (l.fn.task.vtable, l.fn.task.value)).gives l.fn.task.value) l.yielded
    l.out.items
    ((goal.Task-dyn g (l.task.vtable, l.task.value)).gives l.task.value)
