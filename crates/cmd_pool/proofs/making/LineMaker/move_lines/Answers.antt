use Rattle.std.proofs.Common.{◌≡◌, ◌++◌, ◌∷◌, [], List, arith, ap, append_assoc, subst, sym, ◌∙◌}
use Rattle.std.proofs.lemmas.Grind.{common_steps}
use Rattle.task_server.specs.declared.item.Item.{Item}
use Rattle.cmd_pool.specs.ItemLines.{AddsLinesOf, AreAmong, items_of}
use Rattle.cmd_pool.specs.declared.line.Lines.{Lines}
use Rattle.cmd_pool.proofs.ItemLines.{moves_among, moves_more}
use Rattle.cmd_pool.proofs.making.LineMaker.move_lines.Goals as goal

pub loop-lines-preserved : goal.loop-lines-preserved
loop-lines-preserved c = (
  append_assoc c.loop-lines.yielded (c.in-Some.lines ∷ []) c.next.new.self.rest.items
      ∙ ap (λ (l : List Lines). c.loop-lines.yielded ++ l) (sym c.in-Some.ensures.steps.0)
      ∙ c.loop-lines.invariant.0,
  moves_more c.loop-lines.yielded c.in-Some.lines c.args.made.now.items c.loop-lines.made.items
      c.add_lines.new.made.items c.loop-lines.invariant.1 c.add_lines.ensures,
)

pub returns : goal.returns
returns c =
    let full : List Lines = c.self.inside.full.items in
    let last : Lines = c.self.inside.lines in
    let all : c.loop-lines.yielded ≡ full = grind (arith, common_steps) in
    let moved : AddsLinesOf (items_of full) c.args.made.now.items c.loop-lines.made.items =
    subst (λ (l : List Lines).
    AddsLinesOf (items_of l) c.args.made.now.items c.loop-lines.made.items) all
    c.loop-lines.invariant.1 in
    let given = subst (λ (given : List Item). AreAmong (items_of (full ++ last ∷ [])) given)
    c.self.view_is c.self.invariant in
    moves_among (items_of (full ++ last ∷ [])) c.args.self c.args.made.now.items
    c.add_lines-2.new.made.items given
    (moves_more full last c.args.made.now.items c.loop-lines.made.items
    c.add_lines-2.new.made.items moved c.add_lines-2.ensures)
