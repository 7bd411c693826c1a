use Rattle.std.proofs.Common.{◌≡◌, ◌++◌, List, true}
use Rattle.std.specs.Vec.Iter.{drain_items}
use Rattle.crossbeam_queue.specs.Passes.{view, IsSamePass}
use Rattle.message_block.specs.Messages.{MessageState}
use Rattle.module_stream.specs.Progress.{Gives}
use Rattle.module_stream.specs.Works.{Gave}
use Rattle.module_stream.proofs.work.Worker.put_all.Given as goal

-- the messages so far were put
abbrev pub invariant-loop-message : goal.invariant-loop-message
invariant-loop-message g l =
    IsSamePass l.fn.self.puts l.self.puts
    × ((view l.self.puts).puts ≡ true)
    × (l.self.takes ≡ l.fn.self.takes)
    × ((first : Gives) (taken sent : List MessageState)
    → Gave g.T.Task.gives first taken sent l.fn.self
    → (all : List MessageState) × Gave g.T.Task.gives first (taken ++ l.yielded) all l.self)
    × (l.yielded ++ drain_items l.message-iterator ≡ l.fn.batch.messages.items)
