use Rattle.std.proofs.Common.{refl, ◌∙◌, subst}
use Rattle.message_lines.specs.declared.line.Item.{Item}
use Rattle.message_lines.proofs.exchange.exchange.Goals as goal

pub loop-init : goal.loop-init
loop-init g c = (g.met.S.Exchanges.keeps_same _, refl)

pub returns-then-is_err-clause-refused : goal.returns-then-is_err-clause-refused
returns-then-is_err-clause-refused g c = (
  c.loop.invariant.1,
  g.met.S.Exchanges.keeps_then _ _ _ c.loop.invariant.0 c.take_all.ensures.keeps,
)

pub returns-in-Ok-clause-put : goal.returns-in-Ok-clause-put
returns-in-Ok-clause-put g c = (
  c.take_all.new.side,
  g.met.S.Exchanges.keeps_then _ _ _ c.loop.invariant.0 c.take_all.ensures.keeps,
  subst (λ (item : Item). g.S.Exchanges.has_put c.take_all.new.side item c.try_put.new.self)
      c.loop.invariant.1 c.in-Ok.ensures.put,
)

pub loop-preserved : goal.loop-preserved
loop-preserved g c =
    let r = c.in-Err.ensures.refused in (
      g.met.S.Exchanges.keeps_then _ _ _
          (g.met.S.Exchanges.keeps_then _ _ _ c.loop.invariant.0 c.take_all.ensures.keeps) r.1,
      r.0 ∙ c.loop.invariant.1,
    )
