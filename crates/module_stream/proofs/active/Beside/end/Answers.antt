use Rattle.std.proofs.Common.{[], ◌∷◌, ◌++◌, ap, ◌∙◌, subst}
use Rattle.crossbeam_queue.specs.Passes.{Pass, view}
use Rattle.message_lines.specs.declared.line.Item.{Item}
use Rattle.message_lines.specs.declared.line.Log.{Log}
use Rattle.message_lines.specs.declared.line.Item.TheVariants.{Stop}
use Rattle.message_lines.specs.Boxes.{singly}
use Rattle.module_stream.specs.Progress.{Gives, Progress}
use Rattle.message_lines.proofs.Boxes.{singly_more}
use Rattle.module_stream.proofs.active.Beside.end.Goals as goal

pub returns : goal.returns
returns g c = λ first put answered h.
    let child = c.args.self.child in
    let here = c.settle.result in
    let lines = c.args.self.lines in
    subst (λ (gives : Gives). Progress gives put (answered ++ here.held.items) here.lost
    (g.T.Task.gives here.task)) h.task
    (c.settle.ensures child.promise.task.value child.promise.takes.value child.promise.puts.value
    put answered c.join-worker.ensures
    (record {
      sent = ap (λ (e : Pass Item Log). singly (view e).sent) c.take_rest.ensures.puts
          ∙ ap singly c.stop.ensures.put ∙ singly_more (view lines.puts).sent Stop
          ∙ ap (λ l. l ++ Stop ∷ []) h.sent;
      came = c.take_rest.ensures.came answered (c.stop.ensures.came answered h.came);
    }))
