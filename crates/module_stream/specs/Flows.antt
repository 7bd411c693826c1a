-- What boxed tasks that stand one after another give together. The parameters X and F are those of
-- a boxed task, and the first argument gives what a boxed task means.
use Rattle.std.specs.Prelude.{ℕ, List}
use Rattle.std.specs.declared.alloc.Global.{Global}
use Rattle.std.specs.declared.dyn_box.DynBox.{DynBox}
use Rattle.message_block.specs.Messages.{MessageState}
use Rattle.module_stream.specs.declared.task.Task.{Ghosts as Meaning}
use Rattle.module_stream.specs.Composition.{through, IsPassedBy}

abbrev pub flow : {X : Type 0} {F : X → Type 0} → ((x : X) → Meaning (F x))
    → List (DynBox X Global F) → List MessageState → List MessageState
flow means tasks = through (λ task. (means task.vtable).gives task.value) tasks

-- the tasks from one place up to another give what they get
abbrev pub ArePassedBy : {X : Type 0} {F : X → Type 0} → ((x : X) → Meaning (F x))
    → List (DynBox X Global F) → ℕ → ℕ → Type 0
ArePassedBy means tasks from to = IsPassedBy (λ task. (means task.vtable).gives task.value) tasks
    from to
