use Rattle.std.proofs.Common.{[], ◌∷◌, ◌++◌, ap, ◌∙◌}
use Rattle.crossbeam_queue.specs.Passes.{Pass, view}
use Rattle.message_lines.specs.declared.line.Item.{Item}
use Rattle.message_lines.specs.declared.line.Log.{Log}
use Rattle.message_lines.specs.declared.line.Item.TheVariants.{Stop}
use Rattle.message_lines.specs.Boxes.{singly}
use Rattle.message_lines.proofs.Boxes.{in_none}
use Rattle.module_stream.proofs.active.ActiveTask.begin.Goals as goal

pub returns-in-Err-clause-runs : goal.returns-in-Err-clause-runs
returns-in-Err-clause-runs g c =
    let lines = c.in-Ok.lines in
    let made = c.in-Ok.ensures in
    c.settle.ensures c.args.task c.in-Ok.side.takes c.in-Ok.side.puts [] []
    (rw c.in-Err.ensures.err at c.there-worker.ensures)
    (record {
      sent = ap (λ (e : Pass Item Log). singly (view e).sent) c.take_rest.ensures.puts
          ∙ ap singly (c.stop.ensures.put ∙ ap (λ l. l ++ Stop ∷ []) made.sent);
      came = c.take_rest.ensures.came []
          (c.stop.ensures.came [] (in_none (singly (view lines.takes).got) lines.inbox
          (ap singly made.got) made.inbox.0 made.inbox.2));
    })
