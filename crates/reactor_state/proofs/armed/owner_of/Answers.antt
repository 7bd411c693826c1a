use Rattle.std.proofs.Common.{arith, ap, ◌∙◌}
use Rattle.std.proofs.lemmas.List.{get_or_default}
use Rattle.reactor_state.specs.Tables.{timer_of}
use Rattle.reactor_state.proofs.Rising.{not_there}
use Rattle.reactor_state.proofs.armed.owner_of.Goals as goal
use Rattle.reactor_state.proofs.armed.owner_of.Goals.{
  else-place-owners-via-then-place-owners+else-owners-place,
}
use Rattle.reactor_state.proofs.armed.owner_of.Goals.{else-place-owners-via-else-place-owners}

pub returns-else-place-owners : goal.returns-else-place-owners
returns-else-place-owners c hi rising =
    elim c.else-place-owners.branch [
      | else-place-owners-via-then-place-owners+else-owners-place w ↦ not_there timer_of hi
          c.args.timer c.owner_from-place.result c.args.owners.now rising
          (c.owner_from-place.ensures.below hi rising) (c.owner_from-place.ensures.above hi rising)
          (λ l d e. w.if-owners-place.false (ap (λ o. o.timer)
          (get_or_default c.args.owners.now c.owner_from-place.result _ d l) ∙ e))
      | else-place-owners-via-else-place-owners w ↦ not_there timer_of hi c.args.timer
          c.owner_from-place.result c.args.owners.now rising
          (c.owner_from-place.ensures.below hi rising) (c.owner_from-place.ensures.above hi rising)
          (λ l d e. omega arith)
    ]
