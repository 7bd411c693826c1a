use Rattle.std.proofs.Common.{◌≡◌}
use Rattle.leader_token.proofs.pass.Token.get.Given as goal

abbrev pub invariant-loop : goal.invariant-loop
invariant-loop g l =
    (goal.iterator-loop g).can_next l.iterator' × (goal.iterator-loop g).is_finite l.iterator'
    × (l.pass.seat.table_id ≡ l.initial.pass.seat.table_id)
    × (l.pass.seat.me ≡ l.initial.pass.seat.me)
