use Rattle.std.proofs.Common.{◌≡◌, true, false, List, []}
use Rattle.crossbeam_queue.specs.Passes.{view, IsSamePass}
use Rattle.message_block.specs.Messages.{MessageState}
use Rattle.message_lines.specs.declared.line.Item.{Item}
use Rattle.message_lines.specs.Lines.{log}
use Rattle.message_lines.specs.Boxes.{ones, singly}
use Rattle.module_stream.specs.Works.{Gave}
use Rattle.module_stream.proofs.work.work.Given as goal

-- what was taken and sent so far
abbrev pub invariant-loop : goal.invariant-loop
invariant-loop g l =
    (taken : List MessageState) × (sent : List MessageState) × (got : List Item)
    × (view l.worker.takes ≡ log false true [] got)
    × (singly got ≡ ones taken)
    × Gave g.T.Task.gives (g.T.Task.gives l.fn.task) taken sent l.worker
    × (l.worker.gathered.messages.items ≡ [])
    × IsSamePass l.fn.side.takes l.worker.takes × IsSamePass l.fn.side.puts l.worker.puts
