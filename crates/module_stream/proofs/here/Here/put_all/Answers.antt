use Rattle.std.proofs.Common.{◌≡◌, arith, List, ◌∷◌, [], ◌++◌, sym, ap, ◌∙◌, subst, append_assoc}
use Rattle.std.proofs.lemmas.Grind.{common_steps}
use Rattle.message_block.specs.Messages.{MessageState}
use Rattle.module_stream.specs.Progress.{Progress}
use Rattle.module_stream.proofs.here.Here.put_all.Goals as goal

pub loop-message-preserved : goal.loop-message-preserved
loop-message-preserved g c = (
  λ first put answered h.
      subst (λ (l : List MessageState). Progress first l (answered ++ c.take.new.self.held.items)
      c.take.new.self.lost (g.T.Task.gives c.take.new.self.task))
      (append_assoc put c.loop-message.yielded (c.in-Some.message ∷ []))
      (c.take.ensures first (put ++ c.loop-message.yielded) answered
      (c.loop-message.invariant.0 first put answered h)),
  append_assoc c.loop-message.yielded (c.in-Some.message ∷ []) c.next.new.self.rest.items
      ∙ ap (λ (l : List MessageState). c.loop-message.yielded ++ l) (sym c.in-Some.ensures.steps.0)
      ∙ c.loop-message.invariant.1,
)

pub returns-clause-given : goal.returns-clause-given
returns-clause-given g c = λ first put answered h.
    let here = c.loop-message.self in
    let all : c.loop-message.yielded ≡ c.args.messages.items = grind (arith, common_steps) in
    subst (λ (l : List MessageState). Progress first (put ++ c.args.messages.items) (answered ++ l)
    here.lost (g.T.Task.gives here.task)) (sym (ap (λ v. v.items) c.replace.ensures.value))
    (subst (λ (l : List MessageState).
    Progress first (put ++ l) (answered ++ here.held.items) here.lost
    (g.T.Task.gives here.task)) all (c.loop-message.invariant.0 first put answered h))
