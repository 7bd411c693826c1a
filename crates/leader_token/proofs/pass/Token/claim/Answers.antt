use Rattle.std.proofs.Common.{rules, sym, ap, ◌∙◌, ◌∷◌, Some}
use Rattle.atomic_table.specs.Table.{rest}
use Rattle.leader_token.proofs.Keeps.{claims_at}
use Rattle.leader_token.proofs.pass.Token.claim.Goals as goal

pub compare_exchange-found-requires : goal.compare_exchange-found-requires
compare_exchange-found-requires g c = (
  c.requires.table,
  search rules,
  claims_at _ _ _ _ _ _ c.args.self.now.sized.1 _
      c.requires.free.0 c.requires.free.1 c.requires.free.2,
)

pub exchange-requires : goal.exchange-requires
exchange-requires g c =
    let t = c.compare_exchange-found.ensures.2.0 c.if-found-eq0.true in (
      c.compare_exchange-found.ensures.0
          ∙ c.requires.table,
      (Some t.0, t.1 ∙ ap (λ l. (0, Some t.0) ∷ rest l) (sym t.1)),
    )
