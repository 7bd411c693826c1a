use Rattle.std.proofs.Common.{subst}
use Rattle.acceptor.specs.declared.server.ServerHandler.{ServerHandler}
use Rattle.acceptor.specs.Servers.{ServerFits}
use Rattle.acceptor.proofs.Serving.{takes-acceptor, takes-connection}
use Rattle.acceptor.proofs.server.ServerHandlerEventHandler.upcall.Goals as goal

pub returns-in-Listen-clause-turn : goal.returns-in-Listen-clause-turn
returns-in-Listen-clause-turn g c = λ t origin had going h.
    takes-acceptor g.E.PeerEnd.tells g.E.PeerEnd.keeps t origin c.args.up c.args.now had
    c.in-Listen.acceptor c.serve.new.self c.serve.result c.serve.ensures.turn
    (subst (λ (s : ServerHandler g.row.E.Denot g.E.PeerEnd).
    ServerFits g.E.PeerEnd.tells g.E.PeerEnd.keeps t origin s had) c.in-Listen.is h)

pub returns-in-Talk-clause-turn : goal.returns-in-Talk-clause-turn
returns-in-Talk-clause-turn g c = λ t origin had going h.
    takes-connection g.E.PeerEnd.tells g.E.PeerEnd.keeps t origin c.args.up c.args.now had
    c.upcall.new.self c.upcall.result c.talked.result
    (c.upcall.ensures.turn t origin had going
    (subst (λ (s : ServerHandler g.row.E.Denot g.E.PeerEnd).
    ServerFits g.E.PeerEnd.tells g.E.PeerEnd.keeps t origin s had) c.in-Talk.is h))
    c.talked.ensures.answers c.talked.ensures.notes c.talked.ensures.quiet
