use Rattle.std.proofs.Common.{vec_capacity}
use Rattle.script_net.specs.Sorting.{IsUnderWay}
use Rattle.script_net.proofs.sorting.sort_out.Given as goal

abbrev pub invariant-loop-at : goal.invariant-loop-at
invariant-loop-at l = IsUnderWay l.seats l.steps l.from l.at l.reports l.passed
    (vec_capacity l.initial.reports) (vec_capacity l.initial.passed)
