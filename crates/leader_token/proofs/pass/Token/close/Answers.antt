use Rattle.std.proofs.Common.{◌≡◌, ◌∙◌, sym, ap, subst}
use mathlib.Core.Option.{some-injective}
use Rattle.leader_token.specs.Passes.{IsLast}
use Rattle.leader_token.specs.Boxed.{boxed, boxed_marks}
use Rattle.leader_token.proofs.Boxes.{last_value}
use Rattle.leader_token.proofs.Keeps.{closes, some-of}
use Rattle.leader_token.proofs.pass.Token.close.Goals as goal

pub unreachable-requires : goal.unreachable-requires
unreachable-requires g c =
    let kept = g.T.Kept in
    let root = c.requires.root in
    let is = c.into_seat.ensures.2 in
    let last = closes (boxed kept.stands) kept.opens (boxed_marks kept.marks) _ _
    c.into_seat.result.me.0 _ _ (ap (λ m. m.0.spent) is ∙ c.args.root.live)
    (ap (λ m. m.0.root) is ∙ root.0) (ap (λ m. m.0.base) is ∙ root.1)
    (ap (λ m. m.0.children) is ∙ root.2) c.close_with-closed.ensures.values.2 in
    c.in_default.not-Some last.0 (some-injective _ _ (sym c.take-last.ensures.value ∙ last.1))

pub returns : goal.returns
returns g c =
    let kept = g.T.Kept in
    let root = c.requires.root in
    let is = c.into_seat.ensures.2 in
    let last = closes (boxed kept.stands) kept.opens (boxed_marks kept.marks) _ _
    c.into_seat.result.me.0 _ _ (ap (λ m. m.0.spent) is ∙ c.args.root.live)
    (ap (λ m. m.0.root) is ∙ root.0) (ap (λ m. m.0.base) is ∙ root.1)
    (ap (λ m. m.0.children) is ∙ root.2) c.close_with-closed.ensures.values.2 in
    let same : last.0 ≡ c.in-Some.value =
    some-of _ _ (some-injective _ _ (sym last.1 ∙ c.take-last.ensures.value) ∙ c.in-Some.is) in
    record {
      last = last_value kept.stands kept.opens kept.marks _ _ _ c.into_inner.ensures
          (subst (λ v. IsLast (boxed kept.stands) kept.opens (boxed_marks kept.marks) v
          c.in-Some.value) (ap (λ m. m.0) is)
          (subst (IsLast (boxed kept.stands) kept.opens (boxed_marks kept.marks)
          c.into_seat.result.me.0) same last.2));
    }
