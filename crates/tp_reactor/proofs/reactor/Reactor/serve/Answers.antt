use Rattle.std.proofs.Common.{ap}
use Rattle.notify_ring.specs.Words.{poster_view}
use Rattle.tp_reactor.specs.Observed.{loop_of}
use Rattle.tp_reactor.proofs.Observed.{serves_on, serves_after}
use Rattle.tp_reactor.proofs.reactor.Reactor.serve.Goals as goal

pub returns-in-Some-clause-serves : goal.returns-in-Some-clause-serves
returns-in-Some-clause-serves g c =
    serves_on _ g.O.Observer.observes c.args.most_ms c.args.until c.args.job c.run-done.result
    c.settle_on-led.result.0 c.settle_on-led.result.1 c.in-Some.led _ _
    (loop_of c.args.worker.now c.args.observer.now) (loop_of c.tell.new.worker c.observe.new.self)
    c.run-done.ensures.same c.observe.ensures c.in-Some.is c.settle_on-led.ensures.settled
    c.tell.ensures.pass (ap poster_view c.settle_on-led.ensures.poster) c.tell.ensures.posts

pub returns-in-None-clause-serves : goal.returns-in-None-clause-serves
returns-in-None-clause-serves g c =
    serves_after _ g.O.Observer.observes c.args.most_ms c.args.until c.args.job c.run-done.result
    c.settle_on-led.result.0 c.settle_on-led.result.1 c.lead_now.result _ _ _ _
    (loop_of c.args.worker.now c.args.observer.now)
    (loop_of c.lead_now.new.worker c.observe.new.self) c.run-done.ensures.same c.observe.ensures
    c.in-None.is c.settle_on-led.ensures.settled c.tell.ensures.pass
    (ap poster_view c.settle_on-led.ensures.poster) c.tell.ensures.posts c.lead_now.ensures.led
    (ap poster_view c.lead_now.ensures.poster)
