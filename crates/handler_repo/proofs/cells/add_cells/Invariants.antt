use Rattle.std.proofs.Common.{◌≤◌, ◌+◌, ◌≡◌, length, vec_capacity}
use Rattle.handler_repo.proofs.cells.add_cells.Given as goal

-- as many cells as the loop has counted, and room for those that are to be made and for those that
-- may come back
abbrev pub invariant-loop : goal.invariant-loop
invariant-loop g l =
    (length l.cells.items ≡ l.counter)
    × (length l.initial.cells.items ≤ length l.cells.items)
    × (l.filled + l.n ≤ vec_capacity l.cells)
    × (l.filled + length l.cells.items ≤ vec_capacity l.cells)
