use Rattle.std.proofs.Common.{refl}
use Rattle.proactor.specs.Turns.{Serves}
use Rattle.proactor.proofs.Parting.{idle}
use Rattle.proactor.proofs.Turning.{quiet}
use Rattle.proactor.proofs.asynch_end.AsynchEnd.carry_out.Goals as goal

pub returns-in_default : goal.returns-in_default
returns-in_default g c = idle g.E.PeerEnd.tells g.E.PeerEnd.keeps g.C.CompletionHandler.follows
    (Serves c.args.up) c.args.self.now c.args.self.now refl refl refl (λ t kept. kept)
    (quiet c.args.up _ c.in_default.not-Input c.in_default.not-Output)
