use Rattle.std.proofs.Common.{length, ◌-◌, ◌≡◌}
use Rattle.ev_base.specs.MemoryForms.{given_of, left_of}
use Rattle.ev_base.proofs.memory.past_spent.Given as goal

-- the place may move over spent pieces, but not over a byte
abbrev pub invariant-loop-next : goal.invariant-loop-next
invariant-loop-next l =
    (given_of l.next l.at l.pieces ≡ given_of l.piece l.place l.pieces)
    × (left_of l.next l.at l.pieces ≡ left_of l.piece l.place l.pieces)

abbrev pub decreases-loop-next : goal.decreases-loop-next
decreases-loop-next l = length l.pieces - l.next
