use Rattle.std.proofs.Common.{refl, sym, ◌∙◌}
use Rattle.reactor_model.specs.reactor_journal.specs.Past.{past_of}
use Rattle.reactor_model.specs.reactor_journal.specs.Follow.{follows_due, follows_ready}
use Rattle.reactor_model.specs.reactor_journal.specs.declared.entry.Entry.TheVariants.{Cancelled}
use Rattle.reactor_summary.specs.Summary.{summary}
use Rattle.reactor_state.specs.State.{HasNumber, no_places}
use Rattle.reactor_core.proofs.Kept.{stands_kept}
use Rattle.reactor_core.proofs.Quiet.{net_alone, goes_on, has_number}
use Rattle.reactor_core.proofs.Cancelling.{cancel_not_armed, cancel_ok, cancel_no_memory}
use Rattle.reactor_core.proofs.Cancelling.{cancelled_follows, due_cancelled}
use Rattle.reactor_core.proofs.reactor.Core.cancel.Goals as goal

pub returns-then-not-is_pending-clause-cause : goal.returns-then-not-is_pending-clause-cause
returns-then-not-is_pending-clause-cause g c t F h o =
    cancel_not_armed (summary (past_of h)) c.args.timer
    (sym (c.is_pending.ensures t F h o) ∙ c.if-not-is_pending.true)

pub returns-in-Err-clause-cause : goal.returns-in-Err-clause-cause
returns-in-Err-clause-cause g c t F h o =
    cancel_no_memory (summary (past_of h)) c.args.timer
    (sym (c.is_pending.ensures t F h o) ∙ c.if-not-is_pending.false)

pub returns-clause-cause : goal.returns-clause-cause
returns-clause-cause g c t F h o =
    cancel_ok (summary (past_of h)) c.args.timer
    (sym (c.is_pending.ensures t F h o) ∙ c.if-not-is_pending.false)

pub returns-clause-ok : goal.returns-clause-ok
returns-clause-ok g c t F h o =
    let now = stands_kept _ t _ _ F h c.in-Ok.ensures.kept o in
    let room = c.in-Ok.ensures.room t F h o in
    goes_on _ t c.make_room.new.self _ F h (Cancelled c.args.timer) no_places HasNumber refl
    (record {
      appends = record {
        most = refl;
        first = refl;
        journal = c.append.ensures.entries;
        watch = c.append.ensures.watch;
        volumes = refl;
        marks = (refl, refl);
      };
      spare = c.append.ensures.spare;
      repo = refl;
      state = c.cancel.ensures.steps;
      places = λ n p. c.cancel.ensures.places _ p;
    }) (net_alone _ t _ _ F h (Cancelled c.args.timer) refl refl now.tracks)
    (cancelled_follows t.most (follows_due (past_of h)) (follows_ready (past_of h)) (past_of h)
    c.args.timer o.tracks.legal o.settled
    (sym (c.is_pending.ensures t F h o) ∙ c.if-not-is_pending.false))
    (λ legal. due_cancelled t.most (past_of h) c.args.timer legal o.settled.none_due)
    (has_number _ _ _ _ room)
    room now

pub returns-in-Err-clause-err : goal.returns-in-Err-clause-err
returns-in-Err-clause-err g c t F h o = stands_kept _ t _ _ F h c.in-Err.ensures.kept o
