use Rattle.std.proofs.Common.{arith, ap, ◌∙◌, ◌≡◌, length, get_or, ◌<◌}
use Rattle.std.proofs.lemmas.List.{get_or_default}
use Rattle.timer_index.specs.declared.index.Numbered.{Numbered}
use Rattle.timer_index.proofs.Entries.{not_numbered, one_entry}
use Rattle.timer_index.proofs.index.entry_of.Goals as goal
use Rattle.timer_index.proofs.index.entry_of.Goals.{
  else-place-index-via-then-place-index+else-index-place,
}
use Rattle.timer_index.proofs.index.entry_of.Goals.{else-place-index-via-else-place-index}

pub returns-then-index-place : goal.returns-then-index-place
returns-then-index-place c =
    let index = c.args.index.now in
    let nobody : Numbered = record { timer = 0; key = 0 } in
    let e : Numbered = get_or index c.first_from-place.result nobody in
    let l : c.first_from-place.result < length index = c.if-place-index.true in (
      c.if-index-place.true,
      λ key has.
          let f : Numbered = record { timer = c.args.timer; key = key } in
          let same : f ≡ e = one_entry index c.first_from-place.result e f c.requires l
          (get_or_default index c.first_from-place.result nobody e l) has c.if-index-place.true
          in
          ap (λ g. g.key) same,
    )

pub returns-else-place-index : goal.returns-else-place-index
returns-else-place-index c =
    elim c.else-place-index.branch [
      | else-place-index-via-then-place-index+else-index-place w ↦
          not_numbered c.args.index.now c.args.timer c.first_from-place.result c.requires
          c.first_from-place.ensures.below c.first_from-place.ensures.above
          (λ l d e. w.if-index-place.false (ap (λ r. r.timer)
          (get_or_default c.args.index.now c.first_from-place.result _ d l) ∙ e))
      | else-place-index-via-else-place-index w ↦
          not_numbered c.args.index.now c.args.timer c.first_from-place.result c.requires
          c.first_from-place.ensures.below c.first_from-place.ensures.above
          (λ l d e. omega arith)
    ]
