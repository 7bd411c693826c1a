use Rattle.std.proofs.Common.{◌<◌, ◌+◌, length, get_or, set, refl, ap, arith}
use Rattle.module_stream.proofs.Rows.{finished_all, finished_more}
use Rattle.module_stream.proofs.row.finish_through.Goals as goal

-- one more task was finished
pub loop-place-preserved : goal.loop-place-preserved
loop-place-preserved g c =
    let within : c.loop-place.place < length c.loop-place.tasks = omega arith in
    finished_more (λ task. (goal.Task-dyn g (task.vtable, task.value)).gives task.value)
    c.args.tasks.now c.loop-place.tasks
    (set c.loop-place.tasks c.loop-place.place c.finish_with.new.task) c.loop-place.place
    (c.loop-place.place + 1) c.args.messages.items c.loop-place.messages.items
    c.in_ok-messages.messages.items (get_or c.loop-place.tasks c.loop-place.place
    c.index-tasks-place.result) c.finish_with.new.task refl (omega arith) c.loop-place.invariant
    within (ap (λ task. get_or c.loop-place.tasks c.loop-place.place task)
    c.index-tasks-place.is) c.in_ok-messages.ensures

-- all tasks were finished
pub returns : goal.returns
returns g c =
    finished_all (λ task. (goal.Task-dyn g (task.vtable, task.value)).gives task.value)
    c.args.tasks.now c.loop-place.tasks c.loop-place.place
    c.args.messages.items c.loop-place.messages.items c.loop-place.invariant (omega arith)
