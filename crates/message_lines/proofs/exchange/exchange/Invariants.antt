use Rattle.std.proofs.Common.{◌≡◌}
use Rattle.message_lines.proofs.exchange.exchange.Given as goal

-- nothing was put yet
abbrev pub invariant-loop : goal.invariant-loop
invariant-loop g l = g.S.Exchanges.keeps l.fn.side l.side × (l.item ≡ l.fn.item)
