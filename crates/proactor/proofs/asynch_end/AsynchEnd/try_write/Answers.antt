use Rattle.std.proofs.Common.{refl}
use Rattle.proactor.specs.Turns.{tries_write}
use Rattle.proactor.proofs.Parting.{idle, no_write, write_paused}
use Rattle.proactor.proofs.asynch_end.AsynchEnd.try_write.Goals as goal

pub returns-in_default : goal.returns-in_default
returns-in_default g c = idle g.E.PeerEnd.tells g.E.PeerEnd.keeps g.C.CompletionHandler.follows
    tries_write c.args.self.now c.args.self.now refl refl refl (λ t kept. kept)
    (no_write _ c.in_default.ensures)

pub returns-in-Pause : goal.returns-in-Pause
returns-in-Pause g c = write_paused g.E.PeerEnd.tells g.E.PeerEnd.keeps
    g.C.CompletionHandler.follows c.in-Some.piece.now c.args.self.now _ c.in-Some.ensures
    c.in-Pause.ensures.writes refl refl refl refl c.in-Pause.ensures.kept
