use Rattle.std.proofs.Common.{refl}
use Rattle.proactor.proofs.Parting.{write_completes}
use Rattle.proactor.proofs.asynch_end.AsynchEnd.complete_write.Goals as goal

pub returns : goal.returns
returns g c = write_completes g.E.PeerEnd.tells g.E.PeerEnd.keeps g.C.CompletionHandler.follows _ _
    c.args.self.now _ c.tell.new.self c.tell.result c.finish_write-id.ensures c.tell.ensures refl
    refl refl
    refl
