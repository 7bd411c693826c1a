use Rattle.module_stream.specs.Passing.{passed_on}
use Rattle.module_stream.proofs.Rows.{comes_more}
use Rattle.module_stream.proofs.row.put_all.Goals as goal

-- one more message was put
pub loop-message-preserved : goal.loop-message-preserved
loop-message-preserved g c =
    comes_more ((goal.Task-dyn g (c.args.task.now.vtable, c.args.task.now.value)).gives
    c.args.task.now.value)
    ((goal.Task-dyn g (c.loop-message.task.vtable, c.loop-message.task.value)).gives
    c.loop-message.task.value) _ c.loop-message.yielded c.loop-message.out.items
    (passed_on c.in_ok-given.given) c.in_ok-out.out.items c.in-Some.message c.loop-message.invariant
    c.in_ok-given.ensures c.in_ok-out.ensures
