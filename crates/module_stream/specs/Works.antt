-- The work of the thread: a task between two lines.
use Rattle.std.specs.Prelude.{◌≡◌, true, false, List, [], ◌∷◌, ◌++◌}
use Rattle.crossbeam_queue.specs.Passes.{Pass, view, IsSamePass}
use Rattle.message_block.specs.Messages.{MessageState}
use Rattle.message_lines.specs.declared.line.Item.{Item}
use Rattle.message_lines.specs.declared.line.Item.TheVariants.{Stop}
use Rattle.message_lines.specs.declared.line.Log.{Log}
use Rattle.module_stream.specs.declared.work.Worker.{Worker}
use Rattle.message_lines.specs.Lines.{log}
use Rattle.message_lines.specs.Boxes.{ones, singly}
use Rattle.module_stream.specs.Progress.{Gives, Progress}

-- A worker has sent these messages, but for those that it gathered to send them next, and nothing
-- else.
pub record HasGiven {T : Type 0} (sent : List MessageState) (worker : Worker T) : Type 0 where
  pub items : List Item
  pub puts : view worker.puts ≡ log true false items []
  pub all : singly items ++ ones worker.gathered.messages.items ≡ ones sent

-- all but what it gathered and what its end has put is the same
abbrev pub IsSameRest : {T : Type 0} → Worker T → Worker T → Type 0
IsSameRest old new = (new.task ≡ old.task) × (new.takes ≡ old.takes) × (new.lost ≡ old.lost)

-- A worker has given these messages, and nothing else: what its task gave for those that it has
-- taken. `first` is what the task gave at the beginning.
pub record Gave {T : Type 0} (gives : T → Gives) (first : Gives) (taken sent : List MessageState)
    (worker : Worker T) : Type 0 where
  pub given : HasGiven sent worker
  pub progress : Progress first taken sent worker.lost (gives worker.task)

-- A worker that began with this task and these ends has come to the end of what it takes, and sent
-- the end.
pub record HasWorked {T : Type 0} (gives : T → Gives) (task : T) (takes puts : Pass Item Log)
    (worker : Worker T) : Type 0 where
  pub taken : List MessageState
  pub sent : List MessageState
  pub same_takes : IsSamePass takes worker.takes
  pub same_puts : IsSamePass puts worker.puts
  pub got : List Item
  pub took : view worker.takes ≡ log false true [] got
  pub took_all : singly got ≡ ones taken ++ Stop ∷ []
  pub items : List Item
  pub gave : view worker.puts ≡ log true false items []
  pub gave_all : singly items ≡ ones sent ++ Stop ∷ []
  pub progress : Progress (gives task) taken sent worker.lost (gives worker.task)
