use Rattle.std.proofs.Common.{◌≤◌, length}
use Rattle.grouped_lines.specs.Chains.{AreChains}
use Rattle.grouped_lines.proofs.chains.Chains.of.Given as goal

-- the entries from this place on are linked
abbrev pub invariant-loop-at : goal.invariant-loop-at
invariant-loop-at l = (l.at ≤ length l.entries)
    × AreChains l.entries l.at l.chains.first.items l.chains.behind.items

abbrev pub decreases-loop-at : goal.decreases-loop-at
decreases-loop-at l = l.at
