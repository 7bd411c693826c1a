-- What contracts see of an active task.
use Rattle.std.specs.Prelude.{◌≡◌, false, List, [], ◌++◌}
use Rattle.crossbeam_queue.specs.Passes.{view}
use Rattle.message_block.specs.Messages.{MessageState}
use Rattle.module_stream.specs.declared.active.ActiveTask.{ActiveTask}
use Rattle.module_stream.specs.declared.active.Beside.{Beside}
use Rattle.module_stream.specs.declared.active.Runner.{Runner}
use Rattle.module_stream.specs.declared.active.Runner.TheVariants as runner
use Rattle.message_lines.specs.Boxes.{ones, singly, IsIn}
use Rattle.module_stream.specs.Progress.{Gives, Progress}

-- A thread works on a task that gave `first` when it began. These messages were sent to it, and of
-- those that came back these were answered, the rest is in the inbox, and none was lost.
pub record RunsBeside {T : Type 0} (gives : T → Gives) (first : Gives)
    (put answered : List MessageState) (beside : Beside T) : Type 0 where
  pub task : gives beside.child.promise.task.value ≡ first
  pub sent : singly (view beside.lines.puts).sent ≡ ones put
  pub came : IsIn (singly (view beside.lines.takes).got) answered beside.lines.inbox
  pub whole : beside.lines.inbox.lost ≡ false

-- A task that gave `first` when it began runs: these messages were put, and these were answered.
abbrev pub RunsIn : {T : Type 0} → (T → Gives) → Gives → List MessageState → List MessageState
    → Runner T → Type 0
RunsIn gives first put answered (runner.Beside beside) = RunsBeside gives first put answered beside
RunsIn gives first put answered (runner.Here here) =
    Progress first put (answered ++ here.held.items) here.lost (gives here.task)

abbrev pub Runs : {T : Type 0} → (T → Gives) → Gives → List MessageState → List MessageState
    → ActiveTask T → Type 0
Runs gives first put answered active = RunsIn gives first put answered active.runner

-- it keeps nothing back that has come out of the task
abbrev pub KeepsNoneIn : {T : Type 0} → Runner T → Type 0
KeepsNoneIn (runner.Beside beside) = beside.lines.inbox.messages.items ≡ []
KeepsNoneIn (runner.Here here) = here.held.items ≡ []

abbrev pub KeepsNone : {T : Type 0} → ActiveTask T → Type 0
KeepsNone active = KeepsNoneIn active.runner
