use Rattle.std.proofs.Common.{true, refl, ◌++◌, sym, subst}
use Rattle.message_lines.specs.declared.line.Item.{Item}
use Rattle.message_lines.specs.Boxes.{IsIn, each_of}
use Rattle.message_lines.proofs.Boxes.{in_over}
use Rattle.message_lines.proofs.inbox.Inbox.accept.Goals as goal

pub returns-in-Stop-clause-accepted : goal.returns-in-Stop-clause-accepted
returns-in-Stop-clause-accepted c =
    λ got base h. subst (λ (item : Item).
    IsIn (got ++ each_of item) base (record c.args.self.now { over = true })) (sym c.in-Stop.is)
    (in_over got base c.args.self.now (record c.args.self.now { over = true }) c.requires refl refl
    refl h)
