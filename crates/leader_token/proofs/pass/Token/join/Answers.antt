use Rattle.std.proofs.Common.{rules, ap, ◌∙◌, refl}
use Rattle.leader_token.specs.Rule.{out_for}
use Rattle.leader_token.specs.Boxed.{boxed, boxed_marks}
use Rattle.leader_token.proofs.Keeps.{joins, compares, compared_view, compared_seen, compared_own}
use Rattle.leader_token.proofs.pass.Token.join.Goals as goal

pub join_seat-requires : goal.join_seat-requires
join_seat-requires g c =
    let kept = g.T.Kept in
    let other = c.args.other in
    let child = c.requires.child in
    let is = c.into_seat-other.ensures in (
      c.requires.token.0,
      is.0 ∙ c.requires.token.1,
      ap (λ m. m.1) is.2 ∙ other.out ∙ ap out_for child.1,
      search rules,
      joins (boxed kept.stands) kept.opens (boxed_marks kept.marks) _ _ _ _ _ _ c.args.root.now.live
          c.requires.root.0
          (ap (λ m. m.0.spent) is.2 ∙ other.live)
          (ap (λ m. m.0.root) is.2 ∙ child.0)
          (ap (λ m. m.0.base) is.2 ∙ child.1)
          (ap (λ m. m.0.mine) is.2 ∙ child.2)
          refl
          (record { base = refl; mine = refl; root = refl }),
    )

pub load-requires : goal.load-requires
load-requires g c =
    let kept = g.T.Kept in
    let j = c.join_seat.ensures in (
      j.0 ∙ c.requires.token.0,
      search rules,
      compares (boxed kept.stands) kept.opens (boxed_marks kept.marks) _ _ _
          (ap (λ m. m.0.spent) j.2 ∙ c.args.root.now.live) _,
    )

pub returns-clause-root : goal.returns-clause-root
returns-clause-root g c =
    let kept = g.T.Kept in
    compared_view (boxed kept.stands) kept.opens (boxed_marks kept.marks) kept.blank _
    c.load.new.seat.me c.args.root.now.seat.me.0 c.args.other.seat.me.0
    c.into_seat-other.result.me.0 (ap (λ m. m.0) c.join_seat.ensures.2)
    (ap (λ m. m.0) c.into_seat-other.ensures.2) c.load.ensures.2

pub returns-clause-seen : goal.returns-clause-seen
returns-clause-seen g c =
    let kept = g.T.Kept in
    compared_seen (boxed kept.stands) kept.opens (boxed_marks kept.marks) kept.blank _
    c.load.new.seat.me c.args.root.now.seat.me.0 c.args.other.seat.me.0
    c.into_seat-other.result.me.0 (ap (λ m. m.0) c.join_seat.ensures.2)
    (ap (λ m. m.0) c.into_seat-other.ensures.2) c.load.ensures.2

pub returns-clause-own : goal.returns-clause-own
returns-clause-own g c =
    let kept = g.T.Kept in
    compared_own (boxed kept.stands) kept.opens (boxed_marks kept.marks) kept.blank _
    c.load.new.seat.me c.args.root.now.seat.me.0 c.args.other.seat.me.0
    c.into_seat-other.result.me.0 (ap (λ m. m.0) c.join_seat.ensures.2)
    (ap (λ m. m.0) c.into_seat-other.ensures.2) c.load.ensures.2
