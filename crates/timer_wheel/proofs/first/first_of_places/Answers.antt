use Rattle.std.proofs.Common.{◌≡◌, ◌+◌, take, sym, ap, ◌∙◌, subst, arith, Some}
use Rattle.std.proofs.lemmas.List.{take_all}
use Rattle.timer_wheel.specs.Spokes.{timers_of}
use Rattle.timer_wheel.proofs.Firsts.{IsEarliest, earliest_head, earliest_places_more}
use Rattle.timer_wheel.proofs.Firsts.{earliest_first, later_first, same_first}
use Rattle.timer_wheel.proofs.first.first_of_places.Goals as goal
use Rattle.timer_wheel.proofs.first.first_of_places.Goals.{then-comes_before, else-comes_before}

pub loop-at-init : goal.loop-at-init
loop-at-init c = earliest_head c.args.places.now c.in_ok-first.field-0.now grind arith

pub loop-at-preserved : goal.loop-at-preserved
loop-at-preserved c =
    let more = earliest_places_more c.args.places.now c.loop-at.at (Some c.loop-at.first.now) _
    c.requires c.loop-at-test.true c.loop-at.invariant in
    elim c.if-comes_before.branch [
      | then-comes_before w ↦ subst (λ r.
          IsEarliest (timers_of (take (c.loop-at.at + 1) c.args.places.now)) r)
          (later_first _ _ (sym c.comes_before.ensures ∙ w.if-comes_before.true)
          ∙ ap (λ b. Some b.now) (sym w.first-is)) more
      | else-comes_before w ↦ subst (λ r.
          IsEarliest (timers_of (take (c.loop-at.at + 1) c.args.places.now)) r)
          (same_first _ _ (sym c.comes_before.ensures ∙ w.if-comes_before.false)
          ∙ ap (λ b. Some b.now) (sym w.first-is)) more
    ]

pub returns : goal.returns
returns c =
    let all : take c.loop-at.at c.args.places.now ≡ c.args.places.now =
    take_all c.loop-at.at c.args.places.now c.loop-at-test.false in
    earliest_first (timers_of c.args.places.now) (Some c.loop-at.first.now) c.requires
    (subst (λ ps. IsEarliest (timers_of ps) (Some c.loop-at.first.now)) all c.loop-at.invariant)
