use Rattle.std.proofs.Common.{List, true, [], ◌∷◌, ◌++◌, sym, ◌∙◌, ap, subst, append_assoc}
use Rattle.message_block.specs.Messages.{MessageState}
use Rattle.module_stream.specs.Progress.{Progress}
use Rattle.module_stream.proofs.Steps.{progress_put, progress_lost}
use Rattle.module_stream.proofs.here.Here.take.Goals as goal

pub returns-then-self : goal.returns-then-self
returns-then-self g c = λ first put answered h.
    let gives = g.T.Task.gives c.args.self.now.task in
    subst (λ lost. Progress first (put ++ c.args.message ∷ [])
    (answered ++ c.args.self.now.held.items) lost gives) (sym c.if-self.true)
    (progress_lost first gives gives put (answered ++ c.args.self.now.held.items) c.args.message
    c.args.self.now.lost h)

pub returns-in_default : goal.returns-in_default
returns-in_default g c = λ first put answered h.
    progress_lost first (g.T.Task.gives c.args.self.now.task) (g.T.Task.gives c.put.new.self) put
    (answered ++ c.args.self.now.held.items) c.args.message c.args.self.now.lost h

pub returns-in-Ok-append : goal.returns-in-Ok-append
returns-in-Ok-append g c = λ first put answered h.
    let after = g.T.Task.gives c.put.new.self in
    let held = c.args.self.now.held.items in
    subst (λ l. Progress first (put ++ c.args.message ∷ []) l c.args.self.now.lost after)
    (append_assoc answered held c.in-Ok.out
    ∙ ap (λ (l : List MessageState). answered ++ (held ++ l)) (sym c.into_vec-out.ensures)
    ∙ ap (λ l. answered ++ l) (sym c.in-Ok-append.ensures.items))
    (progress_put first (g.T.Task.gives c.args.self.now.task) after put (answered ++ held)
    c.in-Ok.out c.args.message c.args.self.now.lost c.if-self.false h c.in-Ok.ensures.comes)

pub returns : goal.returns
returns g c = λ first put answered h.
    let after = g.T.Task.gives c.put.new.self in
    subst (λ l. Progress first (put ++ c.args.message ∷ []) l true after)
    (ap (λ l. answered ++ l) (sym c.in-Err.ensures.items))
    (progress_lost first (g.T.Task.gives c.args.self.now.task) after put
    (answered ++ c.args.self.now.held.items) c.args.message c.args.self.now.lost h)
