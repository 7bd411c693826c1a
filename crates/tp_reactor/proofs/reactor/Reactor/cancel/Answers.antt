use Rattle.std.proofs.Common.{refl, sym, ◌∙◌}
use Rattle.reactor_model.specs.reactor_journal.specs.declared.entry.Entry.TheVariants.{Cancelled}
use Rattle.reactor_core.specs.reactor_summary.specs.Summary.{Summary}
use Rattle.reactor_core.specs.reactor_state.specs.State.{Shows, HasPlaces, IsPlaced}
use Rattle.reactor_core.specs.Stands.{meaning}
use Rattle.reactor_core.specs.Refusals.{LeavesTimer}
use Rattle.reactor_core.specs.Timers.{IsCancelAnswer}
use Rattle.tp_reactor.proofs.Belongs.{still_of, kin_of}
use Rattle.tp_reactor.proofs.Requests.{asked_one, may_ask, has_asked}
use Rattle.tp_reactor.proofs.Turns.{stood_of}
use Rattle.tp_reactor.proofs.reactor.Reactor.cancel.Goals as goal

pub cancel-answer-requires : goal.cancel-answer-requires
cancel-answer-requires g c =
    let got = c.take-held.ensures.got in
    record {
      stands = (
        _,
        got.first,
        got.list,
        stood_of _ _ _ _ c.value.result.now got c.value.ensures.value,
        c.requires.may.ask,
      );
    }

pub put-requires-clause-may : goal.put-requires-clause-may
put-requires-clause-may g c =
    let m = meaning g.H.EventHandler.means g.M.Net.facts g.M.Net.keeps (Shows g.Q.TimerQueue.timers)
    (HasPlaces g.Q.TimerQueue.spare) IsPlaced g.W.Watch.stands g.W.Watch.faults
    g.W.Watch.is_broken g.W.Watch.whole g.V.Volumes.facts in
    let got = c.take-held.ensures.got in
    may_ask m _ _ _ _ got _ (asked_one m _ _ _ _ got (λ (s : Summary) a. Cancelled c.args.timer)
    c.cancel-answer.result (λ (s : Summary). IsCancelAnswer s c.args.timer) (LeavesTimer m)
    c.value.result.now c.value.ensures.value (λ s a. refl) c.requires.may.ask
    (record {
      ok = c.cancel-answer.ensures.ok;
      err = c.cancel-answer.ensures.err;
      cause = c.cancel-answer.ensures.cause;
      leaves = c.cancel-answer.ensures.refused;
      kept = c.cancel-answer.ensures.marks;
    }))

pub returns : goal.returns
returns g c = record {
  asked = record {
    of = still_of c.args.worker.now _ _ c.requires.may.of
        (c.put.ensures.token ∙ (c.take-held.ensures.of.token ∙ sym c.requires.may.of.token))
        c.take-held.ensures.poster (kin_of _ _ _ _ _ _ _ c.take-held.ensures.got.view
        c.put.ensures.put.view);
    asked =
        let m = meaning g.H.EventHandler.means g.M.Net.facts g.M.Net.keeps
        (Shows g.Q.TimerQueue.timers)
        (HasPlaces g.Q.TimerQueue.spare) IsPlaced g.W.Watch.stands g.W.Watch.faults
        g.W.Watch.is_broken g.W.Watch.whole g.V.Volumes.facts in
        let got = c.take-held.ensures.got in
        has_asked m _ _ _ _ got _ _ (asked_one m _ _ _ _ got
        (λ (s : Summary) a. Cancelled c.args.timer)
        c.cancel-answer.result (λ (s : Summary). IsCancelAnswer s c.args.timer) (LeavesTimer m)
        c.value.result.now c.value.ensures.value (λ s a. refl) c.requires.may.ask
        (record {
          ok = c.cancel-answer.ensures.ok;
          err = c.cancel-answer.ensures.err;
          cause = c.cancel-answer.ensures.cause;
          leaves = c.cancel-answer.ensures.refused;
          kept = c.cancel-answer.ensures.marks;
        })) c.put.ensures.put;
    poster = c.take-held.ensures.poster;
  };
}
