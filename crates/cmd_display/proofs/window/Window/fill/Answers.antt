use Rattle.std.proofs.Common.{rules, subst, ◌++◌, take, List, ℕ}
use Rattle.bounded_input.specs.Reading.{Gave}
use Rattle.cmd_display.specs.Windows.{rest_of}
use Rattle.cmd_display.proofs.Lists.{fill-more}
use Rattle.cmd_display.proofs.window.Window.fill.Goals as goal

pub returns-in-Ok-clause-fills : goal.returns-in-Ok-clause-fills
returns-in-Ok-clause-fills g c = λ i cut h. record {
  gave = subst (λ (bytes : List ℕ). Gave g.S.Source.facts i c.read.new.self bytes)
      (fill-more cut (rest_of c.args.self.now) c.move_to_front.new.self.held.items
      (take c.in-Bytes.count c.read.new.buffer) c.extend_from_slice.new.self.items
      c.move_to_front.new.self.at
      c.move_to_front.ensures.front c.move_to_front.ensures.rest (search rules))
      (c.in-Bytes.ensures.reads i (cut ++ rest_of c.args.self.now) (search rules));
}
