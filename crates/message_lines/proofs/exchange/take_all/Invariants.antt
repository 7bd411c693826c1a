use Rattle.message_lines.proofs.exchange.take_all.Given as goal

-- what came so far was taken in
abbrev pub invariant-loop : goal.invariant-loop
invariant-loop g l = g.S.Exchanges.keeps l.fn.side l.side
