use Rattle.std.proofs.Common.{refl}
use Rattle.proactor.proofs.Turning.{fits_attached}
use Rattle.proactor.proofs.asynch_end.AsynchEnd.attach_end.Goals as goal

pub returns-clause-fits : goal.returns-clause-fits
returns-clause-fits g c = λ t had keeping h.
    fits_attached g.E.PeerEnd.tells g.E.PeerEnd.keeps g.C.CompletionHandler.follows t
    c.args.self.now _ had refl refl refl refl c.attach.ensures.end
    (c.attach.ensures.end_kept t keeping h.kept_end) h
