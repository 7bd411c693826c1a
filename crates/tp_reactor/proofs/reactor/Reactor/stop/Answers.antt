use Rattle.std.proofs.Common.{sym, ◌∙◌}
use Rattle.reactor_core.specs.reactor_state.specs.State.{Shows, HasPlaces, IsPlaced}
use Rattle.reactor_core.specs.Stands.{meaning}
use Rattle.tp_reactor.proofs.Belongs.{still_of, kin_of}
use Rattle.tp_reactor.proofs.Requests.{stops_one, may_ask, has_asked}
use Rattle.tp_reactor.proofs.Turns.{stood_of}
use Rattle.tp_reactor.proofs.reactor.Reactor.stop.Goals as goal

pub stop-requires : goal.stop-requires
stop-requires g c =
    let got = c.take-held.ensures.got in
    record {
      stands = (
        _,
        got.first,
        got.list,
        stood_of _ _ _ _ c.value.result.now got c.value.ensures.value,
        c.requires.may.ask,
      );
    }

pub put-requires-clause-may : goal.put-requires-clause-may
put-requires-clause-may g c =
    let m = meaning g.H.EventHandler.means g.M.Net.facts g.M.Net.keeps (Shows g.Q.TimerQueue.timers)
    (HasPlaces g.Q.TimerQueue.spare) IsPlaced g.W.Watch.stands g.W.Watch.faults
    g.W.Watch.is_broken g.W.Watch.whole g.V.Volumes.facts in
    let got = c.take-held.ensures.got in
    may_ask m _ _ _ _ got _ (stops_one m _ _ _ _ got c.value.result.now c.value.ensures.value
    c.requires.may.ask (record { stops = c.stop.ensures.stops; kept = c.stop.ensures.marks }))

pub returns : goal.returns
returns g c = record {
  asked = record {
    of = still_of c.args.worker.now _ _ c.requires.may.of
        (c.put.ensures.token ∙ (c.take-held.ensures.of.token ∙ sym c.requires.may.of.token))
        c.take-held.ensures.poster (kin_of _ _ _ _ _ _ _ c.take-held.ensures.got.view
        c.put.ensures.put.view);
    asked =
        let m = meaning g.H.EventHandler.means g.M.Net.facts g.M.Net.keeps
        (Shows g.Q.TimerQueue.timers)
        (HasPlaces g.Q.TimerQueue.spare) IsPlaced g.W.Watch.stands g.W.Watch.faults
        g.W.Watch.is_broken g.W.Watch.whole g.V.Volumes.facts in
        let got = c.take-held.ensures.got in
        has_asked m _ _ _ _ got _ _ (stops_one m _ _ _ _ got c.value.result.now
        c.value.ensures.value
        c.requires.may.ask (record { stops = c.stop.ensures.stops; kept = c.stop.ensures.marks }))
        c.put.ensures.put;
    poster = c.take-held.ensures.poster;
  };
}
