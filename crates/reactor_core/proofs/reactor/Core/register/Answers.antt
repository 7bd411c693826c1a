use Rattle.std.proofs.Common.{sym, ◌∙◌}
use Rattle.reactor_model.specs.reactor_journal.specs.Past.{past_of}
use Rattle.reactor_summary.specs.Summary.{summary}
use Rattle.reactor_state.proofs.Fewer.{has_fewer}
use Rattle.reactor_core.proofs.Kept.{stands_kept}
use Rattle.reactor_core.proofs.Registered.{full_now, place_by, room_of, back_plain, rose_from}
use Rattle.reactor_core.proofs.Frames.{rest_begins, attaching_of, attaching_goes_on}
use Rattle.reactor_core.proofs.reactor.Core.register.Goals as goal

pub returns-then-not-has_place-clause-stands : goal.returns-then-not-has_place-clause-stands
returns-then-not-has_place-clause-stands g c t F h st offered =
    let s = summary (past_of h) in
    let live_is = c.live-live.ensures s st.tracks.state in
    let opened_is = c.opened-opened.ensures s st.tracks.state in (
      sym (c.is_ended.ensures s st.tracks.state) ∙ c.if-is_ended.false,
      full_now t.most (past_of h) c.args.self.now.most c.live-live.result c.opened-opened.result
          st.tracks.legal st.tracks.state.sound.opened st.tracks.most live_is opened_is
          (sym c.has_place.ensures ∙ c.if-not-has_place.true),
      live_is,
      opened_is,
      record { stands = st; offered = offered },
    )

pub returns-in-Err-clause-stands : goal.returns-in-Err-clause-stands
returns-in-Err-clause-stands g c t F h st offered =
    let s = summary (past_of h) in (
      place_by t.most (past_of h) c.args.self.now.most c.live-live.result c.opened-opened.result
          st.tracks.most (c.live-live.ensures s st.tracks.state)
          (c.opened-opened.ensures s st.tracks.state)
          (sym (c.is_ended.ensures s st.tracks.state) ∙ c.if-is_ended.false)
          (sym c.has_place.ensures ∙ c.if-not-has_place.false),
      record { stands = stands_kept _ t _ _ F h c.in-Err.ensures.kept st; offered = offered },
    )

pub admit-requires-clause-stands : goal.admit-requires-clause-stands
admit-requires-clause-stands g c =
    let o = c.requires.stands in
    let s = summary (past_of o.2) in (
      o.0,
      o.1,
      o.2,
      record {
        stands = room_of _ 4 _ o.0 _ o.1 o.2
            (stands_kept _ o.0 _ _ o.1 o.2 c.in-Ok.ensures.kept o.3)
            (c.in-Ok.ensures.room o.0 o.1 o.2 o.3);
        place = place_by o.0.most (past_of o.2) c.args.self.now.most c.live-live.result
            c.opened-opened.result o.3.tracks.most (c.live-live.ensures s o.3.tracks.state)
            (c.opened-opened.ensures s o.3.tracks.state)
            (sym (c.is_ended.ensures s o.3.tracks.state) ∙ c.if-is_ended.false)
            (sym c.has_place.ensures ∙ c.if-not-has_place.false);
        offered = o.4;
      },
    )

pub returns-in-Ok-admit-clause-stands : goal.returns-in-Ok-admit-clause-stands
returns-in-Ok-admit-clause-stands g c t F h st offered =
    let s = summary (past_of h) in
    let place = place_by t.most (past_of h) c.args.self.now.most c.live-live.result
    c.opened-opened.result st.tracks.most (c.live-live.ensures s st.tracks.state)
    (c.opened-opened.ensures s st.tracks.state)
    (sym (c.is_ended.ensures s st.tracks.state) ∙ c.if-is_ended.false)
    (sym c.has_place.ensures ∙ c.if-not-has_place.false) in
    let gives = c.in-Ok-admit.ensures.stands t F h
    (record {
      stands = room_of _ 4 _ t _ F h (stands_kept _ t _ _ F h c.in-Ok.ensures.kept st)
          (c.in-Ok.ensures.room t F h st);
      place = place;
      offered = offered;
    }) in
    (place, gives.0, gives.1)

pub returns-in-Err-admit-clause-stands : goal.returns-in-Err-admit-clause-stands
returns-in-Err-admit-clause-stands g c t F h st offered =
    let s = summary (past_of h) in
    let place = place_by t.most (past_of h) c.args.self.now.most c.live-live.result
    c.opened-opened.result st.tracks.most (c.live-live.ensures s st.tracks.state)
    (c.opened-opened.ensures s st.tracks.state)
    (sym (c.is_ended.ensures s st.tracks.state) ∙ c.if-is_ended.false)
    (sym c.has_place.ensures ∙ c.if-not-has_place.false) in
    let gives = c.in-Err-admit.ensures.stands t F h
    (record {
      stands = room_of _ 4 _ t _ F h (stands_kept _ t _ _ F h c.in-Ok.ensures.kept st)
          (c.in-Ok.ensures.room t F h st);
      place = place;
      offered = offered;
    }) in (
      place,
      rose_from _ _ _ c.in-Ok.ensures.kept.net.failed_attaches
          c.in-Err-admit.ensures.leaves.1.0.rose,
      back_plain _ (has_fewer g.Q.TimerQueue.spare) t _ F h c.in-Err-admit.back gives.0 gives.1,
    )

pub returns-in-Ok-admit-clause-refused : goal.returns-in-Ok-admit-clause-refused
returns-in-Ok-admit-clause-refused g c =
    c.in-Ok-admit.ensures.leaves ∙ c.in-Ok.ensures.kept.net.failed_attaches

pub returns-in-Err-admit-clause-refused : goal.returns-in-Err-admit-clause-refused
returns-in-Err-admit-clause-refused g c = (
  λ t origin had keeps fits. c.in-Err-admit.ensures.leaves.0 t origin had
      (c.in-Ok.ensures.kept.net_keeps t keeps) fits,
  record {
    between = c.make_room.new.self;
    kept = c.in-Ok.ensures.kept;
    fails = c.in-Err-admit.ensures.leaves.1;
  },
)

pub returns-then-is_ended-clause-rest : goal.returns-then-is_ended-clause-rest
returns-then-is_ended-clause-rest g c = attaching_of (rest_begins _ _)

pub returns-then-not-has_place-clause-rest : goal.returns-then-not-has_place-clause-rest
returns-then-not-has_place-clause-rest g c = attaching_of (rest_begins _ _)

pub returns-in-Err-clause-rest : goal.returns-in-Err-clause-rest
returns-in-Err-clause-rest g c = attaching_of c.in-Err.ensures.rest

pub returns-in-Ok-admit-clause-rest : goal.returns-in-Ok-admit-clause-rest
returns-in-Ok-admit-clause-rest g c =
    attaching_goes_on (attaching_of c.in-Ok.ensures.rest) c.in-Ok-admit.ensures.rest

pub returns-in-Err-admit-clause-rest : goal.returns-in-Err-admit-clause-rest
returns-in-Err-admit-clause-rest g c =
    attaching_goes_on (attaching_of c.in-Ok.ensures.rest) c.in-Err-admit.ensures.rest
