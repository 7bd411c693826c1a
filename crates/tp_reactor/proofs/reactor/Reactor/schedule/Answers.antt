use Rattle.std.proofs.Common.{◌+◌, refl, sym, ◌∙◌}
use Rattle.reactor_model.specs.reactor_journal.specs.declared.entry.Entry.TheVariants.{Scheduled}
use Rattle.reactor_core.specs.reactor_summary.specs.Summary.{Summary}
use Rattle.reactor_core.specs.reactor_state.specs.State.{Shows, HasPlaces, IsPlaced}
use Rattle.reactor_core.specs.Stands.{meaning}
use Rattle.reactor_core.specs.Refusals.{LeavesLive}
use Rattle.reactor_core.specs.Requests.{IsLiveAnswer}
use Rattle.tp_reactor.proofs.Belongs.{still_of, kin_of}
use Rattle.tp_reactor.proofs.Requests.{asked_one, may_ask, has_asked}
use Rattle.tp_reactor.proofs.Turns.{stood_of}
use Rattle.tp_reactor.proofs.reactor.Reactor.schedule.Goals as goal

pub schedule-answer-requires-clause-stands : goal.schedule-answer-requires-clause-stands
schedule-answer-requires-clause-stands g c =
    let got = c.take-held.ensures.got in (
      _,
      got.first,
      got.list,
      stood_of _ _ _ _ c.value.result.now got c.value.ensures.value,
      c.requires.may.ask,
    )

pub put-requires-clause-may : goal.put-requires-clause-may
put-requires-clause-may g c =
    let m = meaning g.H.EventHandler.means g.M.Net.facts g.M.Net.keeps (Shows g.Q.TimerQueue.timers)
    (HasPlaces g.Q.TimerQueue.spare) IsPlaced g.W.Watch.stands g.W.Watch.faults
    g.W.Watch.is_broken g.W.Watch.whole g.V.Volumes.facts in
    let got = c.take-held.ensures.got in
    may_ask m _ _ _ _ got _ (asked_one m _ _ _ _ got
    (λ (s : Summary) timer. Scheduled timer c.args.handle (s.moment + c.args.delay)
    c.args.every) c.schedule-answer.result (λ (s : Summary). IsLiveAnswer s c.args.handle.0)
    (LeavesLive m) c.value.result.now c.value.ensures.value (λ s a. refl) c.requires.may.ask
    (record {
      ok = c.schedule-answer.ensures.ok;
      err = c.schedule-answer.ensures.err;
      cause = c.schedule-answer.ensures.cause;
      leaves = c.schedule-answer.ensures.refused;
      kept = c.schedule-answer.ensures.marks;
    }))

pub returns : goal.returns
returns g c = record {
  asked = record {
    of = still_of c.args.worker.now _ _ c.requires.may.of
        (c.put.ensures.token ∙ (c.take-held.ensures.of.token ∙ sym c.requires.may.of.token))
        c.take-held.ensures.poster (kin_of _ _ _ _ _ _ _ c.take-held.ensures.got.view
        c.put.ensures.put.view);
    asked =
        let m = meaning g.H.EventHandler.means g.M.Net.facts g.M.Net.keeps
        (Shows g.Q.TimerQueue.timers)
        (HasPlaces g.Q.TimerQueue.spare) IsPlaced g.W.Watch.stands g.W.Watch.faults
        g.W.Watch.is_broken g.W.Watch.whole g.V.Volumes.facts in
        let got = c.take-held.ensures.got in
        has_asked m _ _ _ _ got _ _ (asked_one m _ _ _ _ got
        (λ (s : Summary) timer. Scheduled timer c.args.handle (s.moment + c.args.delay)
        c.args.every) c.schedule-answer.result (λ (s : Summary). IsLiveAnswer s c.args.handle.0)
        (LeavesLive m) c.value.result.now c.value.ensures.value (λ s a. refl) c.requires.may.ask
        (record {
          ok = c.schedule-answer.ensures.ok;
          err = c.schedule-answer.ensures.err;
          cause = c.schedule-answer.ensures.cause;
          leaves = c.schedule-answer.ensures.refused;
          kept = c.schedule-answer.ensures.marks;
        })) c.put.ensures.put;
    poster = c.take-held.ensures.poster;
  };
}
