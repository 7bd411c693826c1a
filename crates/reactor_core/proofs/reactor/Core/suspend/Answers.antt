use Rattle.std.proofs.Common.{refl, sym, ap, ◌∙◌, Bool, Some}
use Rattle.reactor_model.specs.reactor_journal.specs.Past.{past_of}
use Rattle.reactor_model.specs.reactor_journal.specs.Follow.{follows_due, follows_ready}
use Rattle.reactor_model.specs.reactor_journal.specs.declared.entry.Entry.TheVariants.{Suspended}
use Rattle.reactor_summary.specs.Summary.{summary}
use Rattle.reactor_state.specs.State.{HasNumber, no_places}
use Rattle.reactor_core.proofs.Kept.{stands_kept}
use Rattle.reactor_core.proofs.Quiet.{net_alone, goes_on, has_number}
use Rattle.reactor_core.proofs.Suspension.{answers_not_live, answers_same, answers_ok}
use Rattle.reactor_core.proofs.Suspension.{answers_no_memory, suspended_follows}
use Rattle.reactor_core.proofs.reactor.Core.suspend.Goals as goal

pub returns-in-None-clause-cause : goal.returns-in-None-clause-cause
returns-in-None-clause-cause g c t F h o =
    answers_not_live (summary (past_of h)) c.args.handle.0 _ (sym (c.in-None.ensures t F h o))

pub returns-in-Some-true-clause-cause : goal.returns-in-Some-true-clause-cause
returns-in-Some-true-clause-cause g c t F h o =
    answers_same (summary (past_of h)) c.args.handle.0 _
    (sym (c.in-Some-true.ensures t F h o) ∙ ap (λ (b : Bool). Some b) c.in-Some-true.field-0-test)

pub returns-in-Err-clause-cause : goal.returns-in-Err-clause-cause
returns-in-Err-clause-cause g c t F h o =
    answers_no_memory (summary (past_of h)) c.args.handle.0 _
    (sym (c.in-Some-false.ensures t F h o) ∙ ap (λ (b : Bool). Some b) c.in-Some-false.field-0-test)

pub returns-clause-cause : goal.returns-clause-cause
returns-clause-cause g c t F h o =
    answers_ok (summary (past_of h)) c.args.handle.0 _
    (sym (c.in-Some-false.ensures t F h o) ∙ ap (λ (b : Bool). Some b) c.in-Some-false.field-0-test)

pub returns-clause-ok : goal.returns-clause-ok
returns-clause-ok g c t F h o =
    let now = stands_kept _ t _ _ F h c.in-Ok.ensures.kept o in
    let room = c.in-Ok.ensures.room t F h o in
    goes_on _ t c.make_room.new.self _ F h (Suspended c.args.handle) no_places HasNumber refl
    (record {
      appends = record {
        most = refl;
        first = refl;
        journal = c.append.ensures.entries;
        watch = c.append.ensures.watch;
        volumes = refl;
        marks = (refl, refl);
      };
      spare = c.append.ensures.spare;
      repo = refl;
      state = c.suspend.ensures.steps;
      places = λ n p. c.suspend.ensures.places _ p;
    }) (net_alone _ t _ _ F h (Suspended c.args.handle) refl refl now.tracks)
    (suspended_follows g.row.H-Note.Denot t.most (follows_due (past_of h))
    (follows_ready (past_of h)) (summary (past_of h)) c.args.handle o.settled
    (sym (c.in-Some-false.ensures t F h o)
    ∙ ap (λ (b : Bool). Some b) c.in-Some-false.field-0-test))
    (λ legal. o.settled.none_due)
    (has_number _ _ _ _ room)
    room now

pub returns-in-Err-clause-err : goal.returns-in-Err-clause-err
returns-in-Err-clause-err g c t F h o = stands_kept _ t _ _ F h c.in-Err.ensures.kept o
