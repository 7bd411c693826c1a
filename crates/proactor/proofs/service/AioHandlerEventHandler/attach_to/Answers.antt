use Rattle.std.proofs.Common.{subst}
use Rattle.proactor.specs.declared.service.AioHandler.{AioHandler}
use Rattle.proactor.specs.Services.{ServiceFits}
use Rattle.proactor.proofs.Serving.{talk_attached}
use Rattle.proactor.proofs.service.AioHandlerEventHandler.attach_to.Goals as goal

pub returns-in-Talk-clause-fits : goal.returns-in-Talk-clause-fits
returns-in-Talk-clause-fits g c = λ t origin had keeping h.
    talk_attached g.E.PeerEnd.tells g.E.PeerEnd.keeps t origin had c.in-Talk.end
    c.attach_end.new.self c.attach_end.ensures.number
    (λ items fits. c.attach_end.ensures.fits t items keeping fits)
    (subst (λ (s : AioHandler g.row.E.Denot g.E.PeerEnd).
    ServiceFits g.E.PeerEnd.tells g.E.PeerEnd.keeps t origin s had) c.in-Talk.is h)

pub returns-in-Talk-clause-kept : goal.returns-in-Talk-clause-kept
returns-in-Talk-clause-kept g c = λ t origin had keeping h.
    let fits = subst (λ (s : AioHandler g.row.E.Denot g.E.PeerEnd).
    ServiceFits g.E.PeerEnd.tells g.E.PeerEnd.keeps t origin s had) c.in-Talk.is h in
    c.attach_end.ensures.kept t keeping fits.fits.kept_end
