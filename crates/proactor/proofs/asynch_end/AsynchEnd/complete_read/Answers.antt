use Rattle.std.proofs.Common.{refl}
use Rattle.proactor.proofs.Parting.{read_completes}
use Rattle.proactor.proofs.asynch_end.AsynchEnd.complete_read.Goals as goal

pub returns : goal.returns
returns g c = read_completes g.E.PeerEnd.tells g.E.PeerEnd.keeps g.C.CompletionHandler.follows _ _
    c.args.self.now _ c.tell.new.self c.tell.result c.finish_read-id.ensures c.tell.ensures refl
    refl refl
    refl
