use Rattle.std.proofs.Common.{ℕ, sym, ◌∙◌, Option, Result}
use Rattle.ev_base.specs.Terms.{Terms}
use Rattle.ev_base.specs.ev_types.specs.declared.upcall.Handle.{Handle}
use Rattle.ev_base.specs.ev_types.specs.declared.upcall.Mask.{Mask}
use Rattle.leader_token.specs.declared.kept.View.{View}
use Rattle.reactor_model.specs.reactor_journal.specs.declared.entry.Entry.{Entry}
use Rattle.reactor_model.specs.reactor_journal.specs.Past.{past_of, offered_here}
use Rattle.reactor_core.specs.reactor_state.specs.State.{Shows, HasPlaces, IsPlaced}
use Rattle.reactor_core.specs.Stands.{Meaning, meaning}
use Rattle.reactor_core.specs.declared.registering.RegisterRefused.{RegisterRefused}
use Rattle.reactor_desk.specs.declared.terms.DeskTerms.{DeskTerms}
use Rattle.tp_reactor.specs.Asked.{HasAsked, Registers, RegistersAt}
use Rattle.tp_reactor.proofs.Belongs.{still_of, kin_of}
use Rattle.tp_reactor.proofs.Requests.{registers_one, may_ask, has_asked}
use Rattle.tp_reactor.proofs.Turns.{stood_of}
use Rattle.tp_reactor.proofs.reactor.Reactor.register.Goals as goal

-- a registration, with how much of the history was handed over by then
registers_at : {H M Q W V N E : Type 0} (m : Meaning H M Q W V N E) (t : Terms) (F : ℕ)
    (handler : H) (mask : Mask) (timer : Option (ℕ × ℕ))
    (result : Result Handle (H × RegisterRefused)) (v w : View (Entry N) DeskTerms)
    → HasAsked m v (Registers m t F handler mask timer result) w
    → HasAsked m v (RegistersAt m t handler mask timer result) w
registers_at m t F handler mask timer result v w d = record {
  found = d.found;
  left = d.left;
  first = d.first;
  history = d.history;
  entries = d.entries;
  finds = d.finds;
  gives = (F, d.gives);
  leaves = d.leaves;
}

pub register-answer-requires-clause-stands : goal.register-answer-requires-clause-stands
register-answer-requires-clause-stands g c =
    let got = c.take-held.ensures.got in (
      _,
      got.first,
      got.list,
      stood_of _ _ _ _ c.value.result.now got c.value.ensures.value,
      (c.requires.may.ask, c.requires.offered (offered_here (past_of got.list))),
    )

pub put-requires-clause-may : goal.put-requires-clause-may
put-requires-clause-may g c =
    let m = meaning g.H.EventHandler.means g.M.Net.facts g.M.Net.keeps (Shows g.Q.TimerQueue.timers)
    (HasPlaces g.Q.TimerQueue.spare) IsPlaced g.W.Watch.stands g.W.Watch.faults
    g.W.Watch.is_broken g.W.Watch.whole g.V.Volumes.facts in
    let got = c.take-held.ensures.got in
    may_ask m _ _ _ _ got _ (registers_one m _ _ _ _ got c.args.handler c.args.mask c.args.timer
    c.register-answer.result c.value.result.now c.value.ensures.value c.requires.may.ask
    c.requires.offered (record {
      gives = c.register-answer.ensures.gives;
      leaves = c.register-answer.ensures.refused;
      kept = c.register-answer.ensures.marks;
    }))

pub returns : goal.returns
returns g c = record {
  asked = record {
    of = still_of c.args.worker.now _ _ c.requires.may.of
        (c.put.ensures.token ∙ (c.take-held.ensures.of.token ∙ sym c.requires.may.of.token))
        c.take-held.ensures.poster (kin_of _ _ _ _ _ _ _ c.take-held.ensures.got.view
        c.put.ensures.put.view);
    asked =
        let m = meaning g.H.EventHandler.means g.M.Net.facts g.M.Net.keeps
        (Shows g.Q.TimerQueue.timers)
        (HasPlaces g.Q.TimerQueue.spare) IsPlaced g.W.Watch.stands g.W.Watch.faults
        g.W.Watch.is_broken g.W.Watch.whole g.V.Volumes.facts in
        let got = c.take-held.ensures.got in
        registers_at m _ got.first _ _ _ _ _ _
        (has_asked m _ _ _ _ got _ _ (registers_one m _ _ _ _ got c.args.handler c.args.mask
        c.args.timer c.register-answer.result c.value.result.now c.value.ensures.value
        c.requires.may.ask c.requires.offered (record {
          gives = c.register-answer.ensures.gives;
          leaves = c.register-answer.ensures.refused;
          kept = c.register-answer.ensures.marks;
        })) c.put.ensures.put);
    poster = c.take-held.ensures.poster;
  };
}
