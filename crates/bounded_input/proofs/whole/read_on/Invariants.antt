use Rattle.std.proofs.Common.{◌≡◌, ◌-◌}
use Rattle.ev_base.specs.Source.{SourceFacts}
use Rattle.bounded_input.specs.Reading.{limit_of, count_of, Gave}
use Rattle.bounded_input.proofs.whole.read_on.Given as goal

-- the bytes are all that was given so far
abbrev pub invariant-loop-count : goal.invariant-loop-count
invariant-loop-count g l =
    ((i : SourceFacts) → Gave g.S.Source.facts i l.fn.bounded l.fn.bytes.items
    → Gave g.S.Source.facts i l.bounded l.bytes.items)
    × (limit_of l.bounded ≡ limit_of l.fn.bounded)

abbrev pub decreases-loop-count : goal.decreases-loop-count
decreases-loop-count g l = limit_of l.bounded - count_of l.bounded
