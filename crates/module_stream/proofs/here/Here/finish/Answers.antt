use Rattle.std.proofs.Common.{◌++◌, sym, subst}
use Rattle.module_stream.specs.Progress.{Begins}
use Rattle.module_stream.proofs.Steps.{begins_now}
use Rattle.module_stream.proofs.here.Here.finish.Goals as goal

pub returns-then-lost-clause-front : goal.returns-then-lost-clause-front
returns-then-lost-clause-front g c = λ first put answered h.
    subst (λ l. Begins (answered ++ l) (first put)) (sym c.new.ensures)
    (begins_now first (g.T.Task.gives c.args.self.task) put (answered ++ c.args.self.held.items)
    c.args.self.lost h)

pub returns-in_default-clause-front : goal.returns-in_default-clause-front
returns-in_default-clause-front g c = λ first put answered h.
    subst (λ l. Begins (answered ++ l) (first put)) (sym c.new-in_default.ensures)
    (begins_now first (g.T.Task.gives c.args.self.task) put (answered ++ c.args.self.held.items)
    c.args.self.lost h)
