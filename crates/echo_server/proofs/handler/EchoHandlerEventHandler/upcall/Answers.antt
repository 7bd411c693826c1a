use Rattle.std.proofs.Common.{subst}
use Rattle.echo_server.specs.declared.handler.EchoHandler.{EchoHandler}
use Rattle.echo_server.specs.Handlers.{HandlerFits}
use Rattle.echo_server.proofs.Serving.{connection_turn, listener_turn}
use Rattle.echo_server.proofs.handler.EchoHandlerEventHandler.upcall.Goals as goal

pub returns-in-Listen-clause-turn : goal.returns-in-Listen-clause-turn
returns-in-Listen-clause-turn g c = λ t origin had going h.
    listener_turn g.E.PeerEnd.tells g.E.PeerEnd.keeps t origin c.args.up c.args.now had
    c.in-Listen.acceptor c.serve.new.self c.serve.result c.serve.ensures.listens
    c.serve.ensures.serves c.serve.ensures.end
    (subst (λ (s : EchoHandler g.row.E.Denot g.E.PeerEnd).
    HandlerFits g.E.PeerEnd.tells g.E.PeerEnd.keeps t s had) c.in-Listen.is h)

pub returns-in-Talk-clause-turn : goal.returns-in-Talk-clause-turn
returns-in-Talk-clause-turn g c = λ t origin had going h.
    connection_turn g.E.PeerEnd.tells g.E.PeerEnd.keeps t origin c.args.up c.args.now had
    c.in-Talk.connection c.talk.new.connection c.talk.result going c.talk.ensures.serves
    (subst (λ (s : EchoHandler g.row.E.Denot g.E.PeerEnd).
    HandlerFits g.E.PeerEnd.tells g.E.PeerEnd.keeps t s had) c.in-Talk.is h)
