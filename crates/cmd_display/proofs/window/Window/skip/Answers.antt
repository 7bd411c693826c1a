use Rattle.std.proofs.Common.{subst}
use Rattle.bounded_input.specs.Reading.{Gave}
use Rattle.cmd_display.proofs.Lists.{cut-more}
use Rattle.cmd_display.proofs.window.Window.skip.Goals as goal

pub returns-clause-windows : goal.returns-clause-windows
returns-clause-windows g c = λ i cut h. record {
  gave = subst (λ bytes. Gave g.S.Source.facts i c.args.self.now.input bytes)
      (cut-more cut c.args.self.now.held.items c.args.self.now.at c.args.count) h.gave;
}
