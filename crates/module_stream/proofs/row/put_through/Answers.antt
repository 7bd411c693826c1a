use Rattle.std.proofs.Common.{◌<◌, ◌≡◌, ◌+◌, [], ◌∷◌, length, get_or, set, refl, ap, arith}
use Rattle.module_stream.specs.Passing.{passed_on}
use Rattle.module_stream.proofs.Rows.{passed_all, passed_by, passed_first, passed_more}
use Rattle.module_stream.proofs.row.put_through.Goals as goal

-- the first tasks give what they get
pub loop-place-init : goal.loop-place-init
loop-place-init g c = (
  c.requires.first,
  passed_first (λ task. (goal.Task-dyn g (task.vtable, task.value)).gives task.value)
      c.args.tasks.now c.args.first (c.args.message ∷ []) c.requires.passed_by,
)

-- one more task was gone through, and those after it that give what they get
pub loop-place-preserved : goal.loop-place-preserved
loop-place-preserved g c =
    let within : c.loop-place.place < length c.loop-place.tasks = omega arith in (
      c.next_working-place.ensures.within,
      passed_by (λ task. (goal.Task-dyn g (task.vtable, task.value)).gives task.value)
          c.args.tasks.now (set c.loop-place.tasks c.loop-place.place c.put_on.new.task)
          (c.loop-place.place + 1) c.next_working-place.result (c.args.message ∷ [])
          (passed_on c.in_ok-passed.passed)
          (passed_more (λ task. (goal.Task-dyn g (task.vtable, task.value)).gives task.value)
          c.args.tasks.now c.loop-place.tasks
          (set c.loop-place.tasks c.loop-place.place c.put_on.new.task) c.loop-place.place
          (c.loop-place.place + 1) (c.args.message ∷ []) (passed_on c.loop-place.passed)
          (passed_on c.in_ok-passed.passed) (get_or c.loop-place.tasks c.loop-place.place
          c.index-tasks-place.result) c.put_on.new.task refl (omega arith)
          c.loop-place.invariant.1 within (ap
          (λ task. get_or c.loop-place.tasks c.loop-place.place task) c.index-tasks-place.is)
          c.in_ok-passed.ensures)
          c.next_working-place.ensures.passed_by,
    )

-- all tasks were gone through
pub returns : goal.returns
returns g c =
    let all : c.loop-place.place ≡ length c.loop-place.tasks =
    omega (arith, c.loop-place.invariant.0) in
    passed_all (λ task. (goal.Task-dyn g (task.vtable, task.value)).gives task.value)
    c.args.tasks.now c.loop-place.tasks c.loop-place.place
    (c.args.message ∷ []) (passed_on c.loop-place.passed) c.loop-place.invariant.1 all
