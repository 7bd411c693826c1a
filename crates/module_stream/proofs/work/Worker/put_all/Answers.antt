use Rattle.std.proofs.Common.{◌≡◌, arith, List, ◌∷◌, [], ◌++◌, sym, ap, ◌∙◌, subst, append_assoc}
use Rattle.std.specs.Vec.Iter.{drain_items}
use Rattle.std.proofs.lemmas.Grind.{common_steps}
use Rattle.message_block.specs.Messages.{MessageState}
use Rattle.module_stream.specs.Works.{Gave}
use Rattle.module_stream.proofs.Passes.{same_twice}
use Rattle.module_stream.proofs.Giving.{gave_same}
use Rattle.module_stream.proofs.work.Worker.put_all.Goals as goal

pub loop-message-preserved : goal.loop-message-preserved
loop-message-preserved g c =
    let i = c.loop-message.invariant in (
      same_twice c.args.self.now.puts c.loop-message.self.puts c.put.new.self.puts i.0
          c.put.ensures.same,
      c.put.ensures.puts,
      c.put.ensures.takes ∙ i.2,
      λ first taken sent h.
          let before = i.3 first taken sent h in
          let now = c.put.ensures.gave first (taken ++ c.loop-message.yielded) before.0 before.1 in (
            now.0,
            subst (λ (l : List MessageState).
                Gave g.T.Task.gives first l now.0 c.put.new.self)
                (append_assoc taken c.loop-message.yielded (c.in-Some.message ∷ [])) now.1,
          ),
      append_assoc c.loop-message.yielded (c.in-Some.message ∷ []) (drain_items c.next.new.self)
          ∙ ap (λ (l : List MessageState). c.loop-message.yielded ++ l)
          (sym c.in-Some.ensures.steps.0) ∙ i.4,
    )

pub returns-clause-gave : goal.returns-clause-gave
returns-clause-gave g c = λ first taken sent h.
    let now = c.loop-message.invariant.3 first taken sent h in
    let all : c.loop-message.yielded ≡ c.args.batch.messages.items = grind (arith, common_steps) in
    let put = taken ++ c.args.batch.messages.items in
    let gathered = subst (λ (l : List MessageState).
    Gave g.T.Task.gives first (taken ++ l) now.0 c.loop-message.self) all now.1 in
    let given = c.send_gathered.ensures.given now.0 now.1.given in
    let gave = gave_same g.T.Task.gives first put now.0 c.loop-message.self c.send_gathered.new.self
    gathered given c.send_gathered.ensures.rest in (
      now.0,
      gave_same g.T.Task.gives first put now.0 c.send_gathered.new.self c.keep_memory.new.self
          gave (c.keep_memory.ensures.given now.0 given) c.keep_memory.ensures.rest,
    )
