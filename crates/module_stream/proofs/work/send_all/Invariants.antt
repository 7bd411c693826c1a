use Rattle.std.proofs.Common.{◌≡◌, ◌++◌, true}
use Rattle.crossbeam_queue.specs.Passes.{view, IsSamePass}
use Rattle.message_lines.specs.Lines.{log}
use Rattle.message_lines.specs.Boxes.{ones}
use Rattle.module_stream.proofs.work.send_all.Given as goal

-- the messages so far were sent
abbrev pub invariant-loop-message : goal.invariant-loop-message
invariant-loop-message g l =
    IsSamePass l.fn.puts l.puts
    × (view l.puts ≡ log true (view l.fn.puts).takes ((view l.fn.puts).sent ++ ones l.yielded)
    (view l.fn.puts).got)
