use Rattle.std.proofs.Common.{sym, ap, subst, length}
use Rattle.log_handler.specs.declared.note.ServerNote.{ServerNote}
use Rattle.run_summary.specs.Adding.{Adds}
use Rattle.run_summary.proofs.Counting.{adds_acceptance, adds_piece, adds_closing, adds_nothing}
use Rattle.run_summary.proofs.summary.Summary.add.Goals as goal

pub returns-in-Accepted : goal.returns-in-Accepted
returns-in-Accepted c =
    subst (λ (said : ServerNote). Adds c.args.self.now said
    (record c.args.self.now { connections = c.saturating_add-self.result }))
    (sym c.in-Accepted.is) (adds_acceptance c.args.self.now c.in-Accepted.conn _
    c.saturating_add-self.ensures)

pub returns-in-Piece : goal.returns-in-Piece
returns-in-Piece c =
    subst (λ (said : ServerNote). Adds c.args.self.now said
    (record c.args.self.now {
      records = c.saturating_add-self-in-Piece.result;
      bytes = c.saturating_add-self-in-Piece-2.result;
      lines = c.saturating_add-self-in-Piece-3.result;
    }))
    (sym c.in-Piece.is)
    (adds_piece c.args.self.now c.in-Piece.conn c.in-Piece.took c.in-Piece.records
    c.len-records.result _ _ _ c.len-records.ensures c.saturating_add-self-in-Piece.ensures
    c.saturating_add-self-in-Piece-2.ensures c.saturating_add-self-in-Piece-3.ensures)

pub returns-in-Finished : goal.returns-in-Finished
returns-in-Finished c =
    subst (λ (said : ServerNote). Adds c.args.self.now said
    (record c.args.self.now { lines = c.saturating_add-self-in-Finished.result }))
    (sym c.in-Finished.is)
    (adds_closing c.args.self.now c.in-Finished.conn c.in-Finished.end _
    c.saturating_add-self-in-Finished.ensures)

pub returns-in_default : goal.returns-in_default
returns-in_default c = adds_nothing c.args.self.now c.args.note.now c.in_default.not-Accepted
    c.in_default.not-Piece c.in_default.not-Finished
