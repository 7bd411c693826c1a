use Rattle.std.proofs.Common.{subst}
use Rattle.echo_server.specs.declared.handler.EchoHandler.{EchoHandler}
use Rattle.echo_server.specs.Handlers.{HandlerFits}
use Rattle.echo_server.proofs.Serving.{fits_attached}
use Rattle.echo_server.proofs.handler.EchoHandlerEventHandler.attach_to.Goals as goal

pub returns-in-Listen-clause-fits : goal.returns-in-Listen-clause-fits
returns-in-Listen-clause-fits g c = λ t origin had keeps h.
    fits_attached g.E.PeerEnd.tells g.E.PeerEnd.keeps t _ c.attach_to.new.self
    c.attach_to.ensures.end c.attach_to.ensures.idle (c.attach_to.ensures.end_kept t keeps)
    (subst (λ (s : EchoHandler g.row.E.Denot g.E.PeerEnd).
    HandlerFits g.E.PeerEnd.tells g.E.PeerEnd.keeps t s had) c.in-Listen.is h)
