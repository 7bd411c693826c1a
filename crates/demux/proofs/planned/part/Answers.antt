use Rattle.std.proofs.Common.{◌≡◌, sym, ap, ◌∙◌, arith, get_or, true, false, length, vec_len, take}
use Rattle.std.proofs.Common.{drop, ◌++◌, ◌+◌, ◌-◌}
use Rattle.std.proofs.lemmas.List.{with_items_is}
use Rattle.std.specs.List.{slice_range}
use Rattle.demux.specs.PlayRoom.{rotated}
use Rattle.demux.specs.PlayNet.{is_given}
use Rattle.demux.proofs.Parting.{next_there, left_length, given_more, left_more, parted_all}
use Rattle.demux.proofs.planned.part.Goals as goal
use Rattle.demux.proofs.planned.part.Goals.{After-is_given, then-not-is_given, else-not-is_given}

pub bring-requires-clause-before : goal.bring-requires-clause-before
bring-requires-clause-before c =
    let short = left_length (is_given c.args.wait c.args.watched.now) c.args.planned.now.items
    c.loop-at.at (omega arith) in
    omega arith

here : (c : After-is_given) → c.index.result.now
    ≡ get_or c.args.planned.now.items c.loop-at.at c.index.result.now
here c =
    c.index.ensures ∙ ap (λ ys. get_or ys c.loop-at.at c.index.result.now) c.loop-at.invariant.2
    ∙ next_there (is_given c.args.wait c.args.watched.now) c.args.planned.now.items c.loop-at.at
    c.index.result.now (omega arith)

pub loop-at-preserved : goal.loop-at-preserved
loop-at-preserved c =
    let p = is_given c.args.wait c.args.watched.now in
    elim c.if-not-is_given.branch [
      | then-not-is_given w ↦
          let left = c.loop-at.left in
          let at = c.loop-at.at in
          let waits : p (get_or c.args.planned.now.items at c.index.result.now) ≡ false =
          ap p (sym (here c.before)) ∙ sym c.is_given.ensures ∙ w.if-not-is_given.true in
          let more = left_more p c.args.planned.now.items at left c.index.result.now (omega arith)
          waits c.loop-at.invariant.1 in (
            ap vec_len w.planned-is ∙ c.loop-at.invariant.0,
            w.left-is ∙ sym more.0,
            ap (λ v. v.items) w.planned-is ∙ with_items_is c.loop-at.planned w.bring.new.planned
                (w.bring.auto.planned ∙ w.deref_mut.ensures.len) ∙ w.bring.ensures
                ∙ ap (λ ys. take left ys ++ rotated (at - left) (slice_range ys left (at + 1))
                ++ drop (at + 1) ys) (w.deref_mut.ensures.value ∙ c.loop-at.invariant.2)
                ∙ more.1,
          )
      | else-not-is_given w ↦
          let given : p (get_or c.args.planned.now.items c.loop-at.at c.index.result.now) ≡ true =
          ap p (sym (here c.before)) ∙ sym c.is_given.ensures ∙ w.if-not-is_given.false in
          let more = given_more p c.args.planned.now.items c.loop-at.at c.index.result.now
          (omega arith) given in (
            ap vec_len w.planned-is ∙ c.loop-at.invariant.0,
            w.left-is ∙ c.loop-at.invariant.1
                ∙ ap length (sym more.0),
            ap (λ v. v.items) w.planned-is ∙ c.loop-at.invariant.2
                ∙ sym more.1,
          )
    ]

pub returns-clause-left : goal.returns-clause-left
returns-clause-left c =
    c.loop-at.invariant.1 ∙ ap length (parted_all (is_given c.args.wait c.args.watched.now)
    c.args.planned.now.items c.loop-at.at (omega arith)).0

pub returns-clause-parted : goal.returns-clause-parted
returns-clause-parted c =
    c.loop-at.invariant.2 ∙ (parted_all (is_given c.args.wait c.args.watched.now)
    c.args.planned.now.items c.loop-at.at (omega arith)).1
