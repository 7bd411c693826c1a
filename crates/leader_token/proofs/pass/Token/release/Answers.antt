use Rattle.std.proofs.Common.{rules, ap, ◌∙◌, sym, subst, Some, ◌∷◌}
use Rattle.atomic_table.specs.Table.{rest}
use Rattle.leader_token.specs.Passes.{MayPut, IsPut}
use Rattle.leader_token.specs.Boxed.{boxed, boxed_marks}
use Rattle.leader_token.proofs.Boxes.{once_boxed, many_boxed}
use Rattle.leader_token.proofs.Keeps.{releases_at}
use Rattle.leader_token.proofs.pass.Token.release.Goals as goal

pub store-requires : goal.store-requires
store-requires g c =
    let kept = g.T.Kept in
    let moved = c.exchange-empty.ensures in
    let value = c.args.value in (
      moved.0 ∙ c.requires.table,
      search rules,
      releases_at (boxed kept.stands) kept.opens (boxed_marks kept.marks) _
          (once_boxed kept.stands kept.opens kept.marks kept.once)
          (many_boxed kept.stands kept.opens kept.marks kept.equally_many) _ _
          c.args.self.now.sized.1 _ value
          (ap (λ m. m.1) moved.3 ∙ ap (λ l. (0, Some value) ∷ rest l) c.requires.out)
          (ap (λ m. m.0.spent) moved.3 ∙ c.requires.live)
          (subst (λ v. MayPut (boxed kept.stands) kept.opens (boxed_marks kept.marks) v value)
          (sym (ap (λ m. m.0) moved.3)) c.requires.may),
    )

pub returns-clause-put : goal.returns-clause-put
returns-clause-put g c =
    let kept = g.T.Kept in
    let moved = c.exchange-empty.ensures in
    let value = c.args.value in
    let told = c.store.ensures.2 value
    (ap (λ m. m.1) moved.3 ∙ ap (λ l. (0, Some value) ∷ rest l) c.requires.out) in (
      subst (λ v. IsPut (boxed kept.stands) kept.opens (boxed_marks kept.marks) v value
          c.store.new.seat.me.0) (ap (λ m. m.0) moved.3) told.0,
      told.1,
    )
