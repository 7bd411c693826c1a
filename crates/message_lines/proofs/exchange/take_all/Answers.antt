use Rattle.message_lines.proofs.exchange.take_all.Goals as goal

pub loop-init : goal.loop-init
loop-init g c = g.met.S.Exchanges.keeps_same _

pub returns-in_err-take_next-clause-keeps : goal.returns-in_err-take_next-clause-keeps
returns-in_err-take_next-clause-keeps g c =
    g.met.S.Exchanges.keeps_then _ _ _ c.loop.invariant c.take_next.ensures.keeps

pub returns-then-not-branch-clause-keeps : goal.returns-then-not-branch-clause-keeps
returns-then-not-branch-clause-keeps g c =
    g.met.S.Exchanges.keeps_then _ _ _ c.loop.invariant c.take_next.ensures.keeps

pub loop-preserved : goal.loop-preserved
loop-preserved g c = g.met.S.Exchanges.keeps_then _ _ _ c.loop.invariant c.take_next.ensures.keeps
