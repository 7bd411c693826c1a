use Rattle.std.proofs.Common.{refl, sym, ◌∙◌, ◌≡◌, true}
use Rattle.reactor_model.specs.reactor_journal.specs.Past.{past_of}
use Rattle.reactor_model.specs.reactor_journal.specs.Follow.{follows_due, follows_ready}
use Rattle.reactor_model.specs.reactor_journal.specs.declared.entry.Entry.TheVariants.{Cancelled}
use Rattle.reactor_summary.specs.Summary.{summary}
use Rattle.reactor_state.specs.State.{HasNumber, no_places}
use Rattle.reactor_state.proofs.Fewer.{has_fewer}
use Rattle.reactor_core.specs.Settling.{act_places}
use Rattle.reactor_core.specs.Acting.{is_mine}
use Rattle.reactor_core.proofs.Quiet.{net_alone, goes_on, has_number}
use Rattle.reactor_core.proofs.Cancelling.{cancelled_follows, due_cancelled}
use Rattle.reactor_core.proofs.Registered.{plain_of}
use Rattle.reactor_core.proofs.Acted.{room_for_one, cancelled_not, cancelled_so, mine_pending}
use Rattle.reactor_core.proofs.reactor.Core.cancel_mine.Goals as goal

pub returns-then-not-is_mine-clause-stands : goal.returns-then-not-is_mine-clause-stands
returns-then-not-is_mine-clause-stands g c t F h st =
    let plain = plain_of _ (has_fewer g.Q.TimerQueue.spare) 4 act_places t c.args.self.now F h st in
    cancelled_not _ t c.args.self.now F h c.args.timer _
    (sym (c.is_mine.ensures t F h plain) ∙ c.if-not-is_mine.true) plain

pub returns-clause-stands : goal.returns-clause-stands
returns-clause-stands g c t F h st =
    let plain = plain_of _ (has_fewer g.Q.TimerQueue.spare) 4 act_places t c.args.self.now F h st in
    let mine : is_mine (summary (past_of h)) c.args.handle.0 c.args.timer ≡ true =
    sym (c.is_mine.ensures t F h plain) ∙ c.if-not-is_mine.false in
    let room = room_for_one _ (has_fewer g.Q.TimerQueue.spare) c.args.self.now (summary (past_of h))
    st.room in
    cancelled_so _ t _ F h c.args.timer _ mine
    (goes_on _ t c.args.self.now _ F h (Cancelled c.args.timer) no_places HasNumber refl
    (record {
      appends = record {
        most = refl;
        first = refl;
        journal = c.append.ensures.entries;
        watch = c.append.ensures.watch;
        volumes = refl;
        marks = (refl, refl);
      };
      spare = c.append.ensures.spare;
      repo = refl;
      state = c.cancel.ensures.steps;
      places = λ n p. c.cancel.ensures.places _ p;
    }) (net_alone _ t _ _ F h (Cancelled c.args.timer) refl refl st.tracks)
    (cancelled_follows t.most (follows_due (past_of h)) (follows_ready (past_of h)) (past_of h)
    c.args.timer st.tracks.legal st.settled
    (mine_pending (summary (past_of h)) c.args.handle.0 c.args.timer mine))
    (λ legal. due_cancelled t.most (past_of h) c.args.timer legal st.settled.none_due)
    (has_number _ _ _ _ room)
    room plain)
