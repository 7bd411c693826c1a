use Rattle.std.proofs.Common.{subst, inr}
use Rattle.acceptor.specs.declared.server.ServerHandler.{ServerHandler}
use Rattle.acceptor.specs.Servers.{ServerFits}
use Rattle.acceptor.proofs.server.ServerHandlerEventHandler.handle_close.Goals as goal

pub returns-in-Talk-clause-gone : goal.returns-in-Talk-clause-gone
returns-in-Talk-clause-gone g c = λ t origin had own h.
    inr (c.handle_close.ensures.gone t origin had own
    (subst (λ (s : ServerHandler g.row.E.Denot g.E.PeerEnd).
    ServerFits g.E.PeerEnd.tells g.E.PeerEnd.keeps t origin s had) c.in-Talk.is h))
