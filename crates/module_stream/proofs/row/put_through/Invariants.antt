use Rattle.std.proofs.Common.{◌≤◌, ◌-◌, [], ◌∷◌, length}
use Rattle.module_stream.specs.Passing.{passed_on}
use Rattle.module_stream.proofs.Rows.{HasPassed}
use Rattle.module_stream.proofs.row.put_through.Given as goal

-- the tasks before the place were gone through
abbrev pub invariant-loop-place : goal.invariant-loop-place
invariant-loop-place g l =
    (l.place ≤ length l.tasks)
    × HasPassed (λ task. (goal.Task-dyn g (task.vtable, task.value)).gives task.value)
    l.initial.tasks l.tasks l.place (l.fn.message ∷ []) (passed_on l.passed)

-- the tasks that are left
abbrev pub decreases-loop-place : goal.decreases-loop-place
decreases-loop-place g l = length l.tasks - l.place
