use Rattle.reactor_state.proofs.Fewer.{has_fewer}
use Rattle.std.proofs.Common.{sym, subst, ◌∙◌, ◌∷◌, arith, ap}
use Rattle.reactor_model.specs.reactor_journal.specs.Past.{past_of}
use Rattle.reactor_model.specs.reactor_journal.specs.declared.entry.Entry.TheVariants.{Returned}
use Rattle.reactor_model.specs.reactor_journal.proofs.Turning.{past_of-more}
use Rattle.reactor_summary.specs.Summary.{summary}
use Rattle.reactor_state.specs.State.{HasNumber}
use Rattle.reactor_core.proofs.SettleEvent.{returned_at, settled_event}
use Rattle.reactor_core.proofs.Owed.{owed_returned}
use Rattle.reactor_core.proofs.Dispatch.{open_is_live, live_returned}
use Rattle.reactor_core.proofs.reactor.Core.settle_event.Goals as goal

pub take_back-requires-clause-may : goal.take_back-requires-clause-may
take_back-requires-clause-may g c =
    let o = c.requires.stands in
    let number : HasNumber (summary (past_of o.2)) = let owes =
    owed_returned (summary (past_of o.2)) c.args.settled.event c.args.answer c.args.note
    c.args.settled o.4.event in let r = o.3.room.numbers in omega (arith, r, owes) in
    let k = c.record_return.ensures.tracks o.0 o.1 o.2 o.3.tracks c.args.settled o.4.event number in
    let later : HasNumber (summary (Returned c.args.settled.event c.args.answer c.args.note
    ∷ past_of o.2)) =
    let owes = owed_returned (summary (past_of o.2)) c.args.settled.event c.args.answer c.args.note
    c.args.settled o.4.event in
    let r = o.3.room.numbers in
    omega (arith, r, owes)
    in (
      o.0,
      o.1,
      _,
      record {
        tracks = k;
        back = returned_at _ o.0 _ o.1 o.2 c.args.settled c.args.answer c.args.note c.args.handler
            c.is_alive-alive.result c.why_of.result o.4
            (sym (c.is_alive-alive.ensures (summary (past_of o.2)) o.3.tracks.state))
            c.why_of.ensures k;
        number = subst (λ ps. HasNumber (summary ps))
            (sym (past_of-more o.2 (Returned c.args.settled.event c.args.answer c.args.note)))
            later;
      },
    )

pub returns-clause-settles : goal.returns-clause-settles
returns-clause-settles g c t F h st s =
    let number : HasNumber (summary (past_of h)) = let owes =
    owed_returned (summary (past_of h)) c.args.settled.event c.args.answer c.args.note
    c.args.settled s.event in let r = st.room.numbers in omega (arith, r, owes) in
    let k = c.record_return.ensures.tracks t F h st.tracks c.args.settled s.event number in
    let later : HasNumber (summary (Returned c.args.settled.event c.args.answer c.args.note
    ∷ past_of h)) =
    let owes = owed_returned (summary (past_of h)) c.args.settled.event c.args.answer c.args.note
    c.args.settled s.event in
    let r = st.room.numbers in
    omega (arith, r, owes)
    in
    let back = c.take_back.ensures.takes t F _ (record {
      tracks = k;
      back = returned_at _ t _ F h c.args.settled c.args.answer c.args.note c.args.handler
          c.is_alive-alive.result c.why_of.result s
          (sym (c.is_alive-alive.ensures (summary (past_of h)) st.tracks.state)) c.why_of.ensures k;
      number = subst (λ ps. HasNumber (summary ps))
          (sym (past_of-more h (Returned c.args.settled.event c.args.answer c.args.note))) later;
    }) in
    settled_event _ (has_fewer g.Q.TimerQueue.spare) t c.args.self.now _ _ F h c.args.settled
    c.args.answer c.args.note c.args.handler st s
    (record {
      journal = c.record_return.ensures.journal;
      places = λ p k. c.take_back.ensures.room.places _ (c.record_return.ensures.places p k);
      seats =
          let e = ap (λ r. r.spare) c.record_return.ensures.repo in
          omega (arith, e, c.take_back.ensures.room.seats);
      net = let e =
          ap (λ n. (g.M.Net.facts n).spare) c.record_return.ensures.net in
          omega (arith, e, c.take_back.ensures.room.net);
    })
    k (live_returned (summary (past_of h)) c.args.settled.event c.args.answer c.args.note
    c.args.settled.handle.0 ∙ (open_is_live t.most (past_of h) c.args.settled.event
    c.args.settled st.tracks.legal s.event).0) back
