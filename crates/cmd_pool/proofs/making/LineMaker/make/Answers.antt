use Rattle.std.proofs.Common.{◌++◌, ◌∷◌, [], List, subst, sym}
use Rattle.task_server.specs.declared.item.Item.{Item}
use Rattle.cmd_pool.specs.ItemLines.{AreAmong, items_of}
use Rattle.cmd_pool.proofs.ItemLines.{given_more}
use Rattle.cmd_pool.proofs.making.LineMaker.make.Goals as goal

pub invariant_of-self : goal.invariant_of-self
invariant_of-self c =
    let full = c.self.inside.full.items in
    subst (λ (given : List Item). AreAmong (items_of (full ++ c.add_line.new.lines ∷ [])) given)
    (sym c.add.ensures)
    (given_more full c.self.inside.lines c.add_line.new.lines c.self.inside.given c.args.item.now
    c.self.invariant c.add_line.ensures)
