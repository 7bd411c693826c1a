use Rattle.std.proofs.Common.{List, [], ◌∷◌, ◌++◌, true, false, sym, ap, ◌∙◌, subst}
use Rattle.message_block.specs.Messages.{MessageState}
use Rattle.module_stream.specs.declared.passed.Passed.{Passed}
use Rattle.module_stream.specs.Composition.{Comes}
use Rattle.module_stream.specs.Passing.{passed_on}
use Rattle.module_stream.specs.Progress.{Progress}
use Rattle.message_lines.specs.Lines.{log}
use Rattle.message_lines.specs.Boxes.{ones}
use Rattle.module_stream.proofs.Steps.{progress_put, progress_lost}
use Rattle.module_stream.proofs.Giving.{given_more}
use Rattle.module_stream.proofs.work.Worker.put.Goals as goal

pub returns-then-self-clause-gave : goal.returns-then-self-clause-gave
returns-then-self-clause-gave g c = λ first taken sent h. (
  sent,
  record {
    given = h.given;
    progress = subst (λ lost. Progress first (taken ++ c.args.message ∷ []) sent lost
        (g.T.Task.gives c.args.self.now.task)) (sym c.if-self.true)
        (progress_lost first (g.T.Task.gives c.args.self.now.task)
        (g.T.Task.gives c.args.self.now.task) taken sent c.args.message c.args.self.now.lost
        h.progress);
  },
)

pub returns-in-Ok-clause-gave : goal.returns-in-Ok-clause-gave
returns-in-Ok-clause-gave g c = λ first taken sent h.
    let out = c.in-Ok-One.out in
    let before = g.T.Task.gives c.args.self.now.task in
    let after = g.T.Task.gives c.gather.new.self.task in
    let comes = subst (λ (p : Passed).
    Comes before (c.args.message ∷ []) (passed_on p) (g.T.Task.gives c.pass.new.self))
    c.in-Ok-One.field-0-is c.in-Ok-One.ensures.comes in (
      sent ++ out ∷ [],
      record {
        given = c.in-Ok.ensures.gathered sent
            (record { items = h.given.items; puts = h.given.puts; all = h.given.all });
        progress = rw (c.gather.ensures.rest.0, c.gather.ensures.rest.2)
            (progress_put first before (g.T.Task.gives c.pass.new.self) taken sent (out ∷ [])
            c.args.message c.args.self.now.lost c.if-self.false h.progress comes);
      },
    )

pub returns-in-Err-gather-clause-gave : goal.returns-in-Err-gather-clause-gave
returns-in-Err-gather-clause-gave g c = λ first taken sent h. (
  sent,
  record {
    given = (let kept = c.in-Err-gather.ensures.lost sent
        (record { items = h.given.items; puts = h.given.puts; all = h.given.all }) in
        record { items = kept.items; puts = kept.puts; all = kept.all });
    progress = progress_lost first (g.T.Task.gives c.args.self.now.task)
        (g.T.Task.gives c.gather.new.self.task) taken sent c.args.message c.args.self.now.lost
        h.progress;
  },
)

pub returns-in-Ok-Many-clause-gave : goal.returns-in-Ok-Many-clause-gave
returns-in-Ok-Many-clause-gave g c = λ first taken sent h.
    let out = c.in-Ok-Many.out in
    let before = g.T.Task.gives c.args.self.now.task in
    let comes = subst (λ (p : Passed).
    Comes before (c.args.message ∷ []) (passed_on p) (g.T.Task.gives c.pass.new.self))
    c.in-Ok-Many.field-0-is c.in-Ok-Many.ensures.comes in
    let given = c.send_gathered.ensures.given sent
    (record { items = h.given.items; puts = h.given.puts; all = h.given.all }) in (
      sent ++ out,
      record {
        given = given_more sent out c.send_gathered.new.self _ given c.send_gathered.ensures.none
            (c.send_all.ensures.sent ∙ ap (λ v.
            log true v.takes (v.sent ++ ones c.into_vec.result.items) v.got) given.puts
            ∙ ap (λ (l : List MessageState). log true false (given.items ++ ones l) [])
            c.into_vec.ensures)
            c.send_gathered.ensures.none;
        progress = rw (c.send_gathered.ensures.rest.0, c.send_gathered.ensures.rest.2)
            (progress_put first before (g.T.Task.gives c.pass.new.self) taken sent out
            c.args.message c.args.self.now.lost c.if-self.false h.progress comes);
      },
    )

pub returns-in-Err-clause-gave : goal.returns-in-Err-clause-gave
returns-in-Err-clause-gave g c = λ first taken sent h. (
  sent,
  record {
    given = record { items = h.given.items; puts = h.given.puts; all = h.given.all };
    progress = progress_lost first (g.T.Task.gives c.args.self.now.task)
        (g.T.Task.gives c.pass.new.self) taken sent c.args.message c.args.self.now.lost h.progress;
  },
)
