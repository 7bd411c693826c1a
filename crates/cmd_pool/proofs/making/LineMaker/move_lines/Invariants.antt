use Rattle.std.proofs.Common.{◌≡◌, ◌++◌}
use Rattle.cmd_pool.specs.ItemLines.{AddsLinesOf, items_of}
use Rattle.cmd_pool.proofs.making.LineMaker.move_lines.Given as goal

-- the lines so far were moved, or lost
abbrev pub invariant-loop-lines : goal.invariant-loop-lines
invariant-loop-lines l = (l.yielded ++ l.lines-iterator.rest.items ≡ l.self-inside.full.items)
    × AddsLinesOf (items_of l.yielded) l.fn.made.items l.made.items
