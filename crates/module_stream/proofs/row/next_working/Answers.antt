use Rattle.std.proofs.Common.{◌≡◌, ◌+◌, length, arith, subst}
use Rattle.module_stream.specs.Composition.{IsPassedBy}
use Rattle.module_stream.proofs.Rows.{more_passed_by}
use Rattle.module_stream.proofs.row.next_working.Goals as goal

-- one more task gives what it gets
pub loop-place-preserved : goal.loop-place-preserved
loop-place-preserved g c =
    more_passed_by (λ task. (goal.Task-dyn g (task.vtable, task.value)).gives task.value)
    c.args.tasks.now c.args.from c.loop-place.place (c.loop-place.place + 1)
    c.index-tasks-place.result (omega arith) c.loop-place.invariant (omega arith)
    c.index-tasks-place.is (c.gives_the_same.ensures c.if-not-gives_the_same.false)

-- all do
pub returns-clause-passed_by : goal.returns-clause-passed_by
returns-clause-passed_by g c =
    let all : c.loop-place.place ≡ length c.args.tasks.now = omega arith in
    subst (λ k. IsPassedBy (λ task. (goal.Task-dyn g (task.vtable, task.value)).gives task.value)
    c.args.tasks.now c.args.from k) all c.loop-place.invariant
