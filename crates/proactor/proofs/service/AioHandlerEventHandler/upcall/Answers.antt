use Rattle.std.proofs.Common.{subst}
use Rattle.proactor.specs.declared.service.AioHandler.{AioHandler}
use Rattle.proactor.specs.Services.{ServiceFits}
use Rattle.proactor.proofs.Serving.{connection_turn, listener_turn}
use Rattle.proactor.proofs.service.AioHandlerEventHandler.upcall.Goals as goal

pub returns-in-Listen-clause-turn : goal.returns-in-Listen-clause-turn
returns-in-Listen-clause-turn g c = λ t origin had going h.
    listener_turn g.E.PeerEnd.tells g.E.PeerEnd.keeps t origin c.args.up c.args.now had
    c.in-Listen.acceptor c.serve.new.self c.serve.result c.serve.ensures.listens
    c.serve.ensures.serves c.serve.ensures.end
    (subst (λ (s : AioHandler g.row.E.Denot g.E.PeerEnd).
    ServiceFits g.E.PeerEnd.tells g.E.PeerEnd.keeps t origin s had) c.in-Listen.is h)

pub returns-in-Talk-clause-turn : goal.returns-in-Talk-clause-turn
returns-in-Talk-clause-turn g c = λ t origin had going h.
    connection_turn g.E.PeerEnd.tells g.E.PeerEnd.keeps t origin c.args.up c.args.now had
    c.in-Talk.end c.upcall.new.self c.wrapped.result going
    (record {
      made = c.upcall.result;
      makes = c.upcall.ensures.makes;
      wraps = c.wrapped.ensures;
    })
    (subst (λ (s : AioHandler g.row.E.Denot g.E.PeerEnd).
    ServiceFits g.E.PeerEnd.tells g.E.PeerEnd.keeps t origin s had) c.in-Talk.is h)
