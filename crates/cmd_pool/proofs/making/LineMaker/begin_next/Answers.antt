use Rattle.std.proofs.Common.{◌≡◌, ◌⊎◌, ◌++◌, ◌∷◌, [], List, ap, subst, ◌∙◌}
use Rattle.cmd_pool.specs.declared.line.Lines.{Lines}
use Rattle.cmd_pool.proofs.ItemLines.{next_begun}
use Rattle.cmd_pool.proofs.making.LineMaker.begin_next.Goals as goal

pub invariant_of-self : goal.invariant_of-self
invariant_of-self c =
    let full : List Lines = c.self.inside.full.items in
    let after : List Lines = c.add_lines.new.made.items in
    next_begun full after c.self.inside.lines c.replace-lines.new.dest c.self.inside.given
    c.self.invariant
    (subst (λ (l : Lines). (after ≡ full ++ l ∷ []) ⊎ (after ≡ full)) c.replace-lines.ensures.value
    c.add_lines.ensures)
    (ap (λ (l : Lines). l.lines.items) c.replace-lines.ensures.after ∙ c.none.ensures)
