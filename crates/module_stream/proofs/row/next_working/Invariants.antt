use Rattle.module_stream.specs.Composition.{IsPassedBy}
use Rattle.module_stream.proofs.row.next_working.Given as goal

-- the tasks up to the place give what they get
abbrev pub invariant-loop-place : goal.invariant-loop-place
invariant-loop-place g l = IsPassedBy
    (λ task. (goal.Task-dyn g (task.vtable, task.value)).gives task.value) l.tasks l.from l.place
