use Rattle.std.proofs.Common.{arith, ap, ◌∙◌}
use Rattle.std.proofs.lemmas.List.{get_or_default}
use Rattle.handle_search.proofs.Rising.{is_absent}
use Rattle.handle_search.proofs.search.bisected.Goals as goal
use Rattle.handle_search.proofs.search.bisected.Goals.{
  else-place-items-via-then-place-items+else-handle,
}
use Rattle.handle_search.proofs.search.bisected.Goals.{else-place-items-via-else-place-items}

pub returns-else-place-items : goal.returns-else-place-items
returns-else-place-items g c rising =
    elim c.else-place-items.branch [
      | else-place-items-via-then-place-items+else-handle w ↦ is_absent g.T.HasHandle.number
          c.args.handle.0 c.first_from-place.result c.args.items.now rising
          (c.first_from-place.ensures.below rising) (c.first_from-place.ensures.above rising)
          (λ l d e. w.if-handle.false (w.handle.ensures
          ∙ ap g.T.HasHandle.number (w.index-items-place.is
          ∙ get_or_default c.args.items.now c.first_from-place.result _ d l) ∙ e))
      | else-place-items-via-else-place-items w ↦ is_absent g.T.HasHandle.number c.args.handle.0
          c.first_from-place.result c.args.items.now rising
          (c.first_from-place.ensures.below rising) (c.first_from-place.ensures.above rising)
          (λ l d e. omega arith)
    ]
