use Rattle.std.proofs.Common.{◌≡◌, ◌++◌, false, true≢false, sym, ap, ◌∙◌}
use Rattle.std.proofs.lemmas.Grind.{flat_map-append}
use Rattle.crossbeam_queue.specs.Passes.{view}
use Rattle.message_lines.specs.Boxes.{each_of, singly}
use Rattle.message_lines.proofs.Moves.{merges}
use Rattle.module_stream.proofs.Settling.{settled}
use Rattle.module_stream.proofs.here.settle.Goals.{then-lost, else-lost}
use Rattle.module_stream.proofs.here.settle.Goals as goal

pub absorb-requires-clause-rule : goal.absorb-requires-clause-rule
absorb-requires-clause-rule g c = merges _ _ _ _ c.args.lines.can_put c.requires.takes.1

pub absorb-requires-2-clause-rule : goal.absorb-requires-2-clause-rule
absorb-requires-2-clause-rule g c = merges _ _ _ _ c.requires.puts.1 c.args.lines.can_take

pub returns : goal.returns
returns g c = λ task takes puts put answered h stopped.
    let clear : c.if-lost.result ≡ false → (c.args.worker.lost ≡ false)
    × (c.args.lines.inbox.lost ≡ false) =
    elim c.if-lost.branch [
      | then-lost w ↦
          (λ e. absurd (true≢false (sym w.if-lost.true ∙ sym w.result-is ∙ e)))
      | else-lost w ↦
          (λ e. (w.if-lost.false, sym w.result-is ∙ e))
    ] in
    let in_feed = c.learn_as.ensures.rule in
    let in_came = c.learn_as-2.ensures.rule in
    settled (g.T.Task.gives task) (g.T.Task.gives c.args.worker.task) put answered
    c.args.lines.inbox.messages.items stopped.came.dropped h.taken h.sent
    c.args.worker.lost c.args.lines.inbox.lost c.if-lost.result c.args.lines.inbox.over
    (singly in_feed.0) (singly in_came.0)
    (sym stopped.sent ∙ ap singly (sym (ap (λ v. v.sent) c.absorb.ensures.rule) ∙ in_feed.1
    ∙ ap (λ l. l ++ in_feed.0) (ap (λ v. v.got) c.absorb.ensures.rule ∙ ap (λ v. v.got) h.took))
    ∙ flat_map-append each_of h.got in_feed.0 ∙ ap (λ l. l ++ singly in_feed.0) h.took_all)
    (sym h.gave_all ∙ ap singly (sym (ap (λ v. v.sent) h.gave)
    ∙ sym (ap (λ v. v.sent) c.absorb-2.ensures.rule) ∙ in_came.1
    ∙ ap (λ l. l ++ in_came.0) (ap (λ v. v.got) c.absorb-2.ensures.rule))
    ∙ flat_map-append each_of (view c.args.lines.takes).got in_came.0
    ∙ ap (λ l. l ++ singly in_came.0) stopped.came.all)
    c.requires.over stopped.came.none clear h.progress
