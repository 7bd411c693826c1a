use Rattle.std.proofs.Common.{subst}
use Rattle.proactor.specs.declared.service.AioHandler.{AioHandler}
use Rattle.proactor.specs.Services.{ServiceFits}
use Rattle.proactor.proofs.Serving.{talk_gone}
use Rattle.proactor.proofs.service.AioHandlerEventHandler.handle_close.Goals as goal

pub returns-in-Talk-clause-gone : goal.returns-in-Talk-clause-gone
returns-in-Talk-clause-gone g c = λ t origin had own h.
    talk_gone g.E.PeerEnd.tells g.E.PeerEnd.keeps t origin had c.args.why c.in-Talk.end
    c.closed.result own c.closed.ensures
    (subst (λ (s : AioHandler g.row.E.Denot g.E.PeerEnd).
    ServiceFits g.E.PeerEnd.tells g.E.PeerEnd.keeps t origin s had) c.in-Talk.is h)
