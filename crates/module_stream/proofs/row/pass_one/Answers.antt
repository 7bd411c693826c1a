use Rattle.std.proofs.Common.{◌≡◌, [], ◌∷◌, length, refl, ap, arith}
use Rattle.std.proofs.lemmas.Grind.{common_steps}
use Rattle.module_stream.specs.Passing.{passed_on}
use Rattle.module_stream.proofs.Rows.{comes_past, written_back}
use Rattle.module_stream.proofs.row.pass_one.Goals as goal

-- the tasks as they were lent and written back
pub returns-clause-given : goal.returns-clause-given
returns-clause-given g c =
    let long : length c.put_through.new.tasks ≡ c.args.tasks.now.len =
    grind (arith, common_steps) in
    written_back (λ task. (goal.Task-dyn g (task.vtable, task.value)).gives task.value)
    c.args.tasks.now.items c.deref_mut.result.now c.put_through.new.tasks
    c.args.tasks.now.len (c.args.message ∷ []) (c.args.message ∷ [])
    (passed_on c.in_ok-passed.passed) (passed_on c.in_ok-passed.passed)
    c.deref_mut.ensures.value
    refl refl long c.in_ok-passed.ensures

-- all tasks give what they get
pub returns-then-first-len-clause-given : goal.returns-then-first-len-clause-given
returns-then-first-len-clause-given g c =
    comes_past (λ task. (goal.Task-dyn g (task.vtable, task.value)).gives task.value)
    c.args.tasks.now.items c.deref.result.now c.next_working-first.result
    (c.args.message ∷ []) c.deref.ensures.value c.next_working-first.ensures.passed_by
    (omega (arith, ap length c.deref.ensures.value))
