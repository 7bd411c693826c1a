use Rattle.std.proofs.Common.{subst}
use Rattle.acceptor.specs.declared.server.ServerHandler.{ServerHandler}
use Rattle.acceptor.specs.Servers.{ServerFits}
use Rattle.acceptor.proofs.server.ServerHandlerEventHandler.attach_to.Goals as goal

pub returns-in-Listen-clause-fits : goal.returns-in-Listen-clause-fits
returns-in-Listen-clause-fits g c = λ t origin had keeps h.
    c.attach_to.ensures.fits t origin had keeps
    (subst (λ (s : ServerHandler g.row.E.Denot g.E.PeerEnd).
    ServerFits g.E.PeerEnd.tells g.E.PeerEnd.keeps t origin s had) c.in-Listen.is h)

pub returns-in-Talk-clause-fits : goal.returns-in-Talk-clause-fits
returns-in-Talk-clause-fits g c = λ t origin had keeps h.
    c.attach_to-in-Talk.ensures.fits t origin had keeps
    (subst (λ (s : ServerHandler g.row.E.Denot g.E.PeerEnd).
    ServerFits g.E.PeerEnd.tells g.E.PeerEnd.keeps t origin s had) c.in-Talk.is h)
