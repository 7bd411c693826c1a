use Rattle.std.proofs.Common.{◌≡◌}
use Rattle.crossbeam_queue.specs.Passes.{view, IsSamePass}
use Rattle.message_lines.proofs.line.send.Given as goal

-- the item was not put yet
abbrev pub invariant-loop : goal.invariant-loop
invariant-loop g l = IsSamePass l.fn.end l.end × (view l.end ≡ view l.fn.end) × (l.item ≡ l.fn.item)
