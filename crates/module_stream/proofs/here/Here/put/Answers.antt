use Rattle.std.proofs.Common.{◌∷◌, [], ◌++◌, sym, ap, subst}
use Rattle.module_stream.specs.Progress.{Progress}
use Rattle.module_stream.proofs.here.Here.put.Goals as goal

pub returns-clause-given : goal.returns-clause-given
returns-clause-given g c = λ first put answered h.
    subst (λ l. Progress first (put ++ c.args.message ∷ []) (answered ++ l) c.take.new.self.lost
    (g.T.Task.gives c.take.new.self.task)) (sym (ap (λ v. v.items) c.replace.ensures.value))
    (c.take.ensures first put answered h)
