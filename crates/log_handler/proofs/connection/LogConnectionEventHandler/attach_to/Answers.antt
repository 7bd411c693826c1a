use Rattle.std.proofs.Common.{refl}
use Rattle.log_handler.proofs.Serving.{fits-attached}
use Rattle.log_handler.proofs.connection.LogConnectionEventHandler.attach_to.Goals as goal

pub returns-clause-fits : goal.returns-clause-fits
returns-clause-fits g c = λ t origin had keeps h.
    fits-attached g.E.PeerEnd.tells g.E.PeerEnd.keeps t origin c.args.self.now _ had h refl refl
    refl refl refl c.attach.ensures.end (c.attach.ensures.end_kept t keeps h.kept_end)
