use Rattle.std.proofs.Common.{◌≡◌, ◌++◌, length, take, drop, vec_len}
use Rattle.demux.specs.PlayNet.{given_at, left_at}
use Rattle.demux.proofs.planned.part.Given as goal

abbrev pub invariant-loop-at : goal.invariant-loop-at
invariant-loop-at l =
    (vec_len l.planned ≡ vec_len l.initial.planned)
    × (l.left ≡ length (left_at l.wait l.watched (take l.at l.initial.planned.items)))
    × (l.planned.items ≡ left_at l.wait l.watched (take l.at l.initial.planned.items)
    ++ (given_at l.wait l.watched (take l.at l.initial.planned.items)
    ++ drop l.at l.initial.planned.items))
