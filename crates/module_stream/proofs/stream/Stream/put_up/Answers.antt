use Rattle.std.proofs.Common.{◌++◌, List, sym, ap, ◌∙◌}
use Rattle.message_block.specs.Messages.{MessageState}
use Rattle.module_stream.specs.Composition.{through}
use Rattle.module_stream.proofs.stream.Stream.put_up.Goals as goal

-- the list has what was passed
pub returns-in-Ok-clause-given : goal.returns-in-Ok-clause-given
returns-in-Ok-clause-given g c = λ more.
    c.in_ok-passed.ensures.given more
    ∙ ap (λ (given : List MessageState). given
    ++ through (λ task. (goal.Task-dyn g (task.vtable, task.value)).gives task.value)
    c.pass_up.new.self.readers.items more) (sym c.in-Ok.ensures)
