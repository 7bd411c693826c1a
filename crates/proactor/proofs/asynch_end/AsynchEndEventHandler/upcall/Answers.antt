use Rattle.std.proofs.Common.{◌∙◌, ap}
use Rattle.std.specs.Prelude.{Bool, not}
use Rattle.proactor.specs.declared.asynch_end.AsynchEnd.{AsynchEnd}
use Rattle.proactor.specs.declared.note.AsynchNote.{AsynchNote}
use Rattle.proactor.specs.Ends.{change_by, masking}
use Rattle.proactor.specs.Parts.{standing_of}
use Rattle.proactor.specs.Queues.{none_stand}
use Rattle.proactor.proofs.Turning.{makes, promises, takes_turn}
use Rattle.proactor.proofs.asynch_end.AsynchEndEventHandler.upcall.Goals as goal

pub returns : goal.returns
returns g c =
    let m = makes g.E.PeerEnd.tells g.E.PeerEnd.keeps g.C.CompletionHandler.follows c.args.up
    c.args.self.now c.carry_out-step.new.self c.carry_out-step.result
    (record { answer = c.answer-answer.result; note = c.note.result; act = c.mask_change.result })
    c.carry_out-step.ensures c.answer-answer.ensures c.note.ensures
    (c.mask_change.ensures
    ∙ ap (λ (b : Bool). masking {H = AsynchEnd g.row.E.Denot g.row.C.Denot g.E.PeerEnd}
    {N = AsynchNote} {E = g.row.E.Denot} (change_by c.answer-answer.result b c.is_writing.result))
    c.is_writing-was_writing.ensures
    ∙ ap (λ (b : Bool). masking {H = AsynchEnd g.row.E.Denot g.row.C.Denot g.E.PeerEnd}
    {N = AsynchNote} {E = g.row.E.Denot} (change_by c.answer-answer.result
    (not (none_stand (standing_of c.args.self.now).writes)) b))
    c.is_writing.ensures) in
    record {
      turn = λ t origin had going h. takes_turn g.E.PeerEnd.tells g.E.PeerEnd.keeps
          g.C.CompletionHandler.follows t origin c.args.up c.args._now had c.args.self.now
          c.carry_out-step.new.self _ m going h;
      promises = promises g.E.PeerEnd.tells g.E.PeerEnd.keeps g.C.CompletionHandler.follows
          c.args.up c.args.self.now c.carry_out-step.new.self _ m;
      makes = m;
    }
