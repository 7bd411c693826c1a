use Rattle.std.proofs.Common.{rules, List, [], ◌∷◌, ◌++◌, sym, ap, ◌∙◌, subst, append_assoc}
use Rattle.message_block.specs.Messages.{MessageState}
use Rattle.cmd_display.specs.Pipelines.{Prints}
use Rattle.cmd_display.proofs.second.Second.put_each.Goals as goal

pub loop-message-preserved : goal.loop-message-preserved
loop-message-preserved g c =
    let one = c.in-Some.message ∷ [] in (
      λ second o fed h. subst (λ (l : List MessageState).
          Prints g.G.Task.gives g.K.Sink.facts second o l c.put.new.self)
          (append_assoc fed c.loop-message.yielded one)
          (c.in-Ok.ensures.put second o (fed ++ c.loop-message.yielded)
          (c.loop-message.invariant.0 second o fed h)),
      append_assoc c.loop-message.yielded one c.next.new.self.rest.items
          ∙ ap (λ (l : List MessageState). c.loop-message.yielded ++ l)
          (sym c.in-Some.ensures.steps.0) ∙ c.loop-message.invariant.1,
      search rules,
    )

pub returns-in-Err-clause-front : goal.returns-in-Err-clause-front
returns-in-Err-clause-front g c = λ second o fed h. (
  c.loop-message.yielded,
  (c.loop-message.message-iterator.rest.items, sym c.loop-message.invariant.1),
  c.in-Err.ensures.same second o (fed ++ c.loop-message.yielded)
      (c.loop-message.invariant.0 second o fed h),
)
