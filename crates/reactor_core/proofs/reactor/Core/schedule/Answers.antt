use Rattle.reactor_state.specs.State.{HasPlaces}
use Rattle.std.proofs.Common.{refl, sym, ap, ◌∙◌, ◌+◌, ℕ, arith}
use Rattle.reactor_model.specs.reactor_journal.specs.Past.{past_of}
use Rattle.reactor_summary.specs.Summary.{summary}
use Rattle.reactor_core.specs.Stands.{places_for}
use Rattle.reactor_core.specs.Timers.{timer_places}
use Rattle.reactor_core.proofs.Kept.{stands_kept}
use Rattle.reactor_core.proofs.Masking.{live_not_live, live_ok, live_no_memory}
use Rattle.reactor_core.proofs.Scheduling.{timer_used, scheduled}
use Rattle.reactor_core.proofs.reactor.Core.schedule.Goals as goal

pub returns-then-not-is_alive-clause-cause : goal.returns-then-not-is_alive-clause-cause
returns-then-not-is_alive-clause-cause g c t F h o =
    live_not_live (summary (past_of h)) c.args.handle.0
    (sym (c.is_alive.ensures (summary (past_of h)) o.tracks.state) ∙ c.if-not-is_alive.true)

pub returns-in-Err-clause-cause : goal.returns-in-Err-clause-cause
returns-in-Err-clause-cause g c t F h o =
    live_no_memory (summary (past_of h)) c.args.handle.0
    (sym (c.is_alive.ensures (summary (past_of h)) o.tracks.state) ∙ c.if-not-is_alive.false)

pub returns-clause-cause : goal.returns-clause-cause
returns-clause-cause g c t F h o =
    live_ok (summary (past_of h)) c.args.handle.0 _
    (sym (c.is_alive.ensures (summary (past_of h)) o.tracks.state) ∙ c.if-not-is_alive.false)

pub returns-clause-ok : goal.returns-clause-ok
returns-clause-ok g c t F h o =
    let now = stands_kept _ t _ _ F h c.in-Ok.ensures.kept o in
    scheduled _ t c.make_room.new.self _ F h c.schedule-timer.result c.args.handle
    (c.moment.result + c.args.delay) c.args.delay c.args.every (record {
      appends = record {
        most = refl;
        first = refl;
        journal = c.append.ensures.entries;
        watch = c.append.ensures.watch;
        volumes = refl;
        marks = (refl, refl);
      };
      spare = c.append.ensures.spare;
      repo = refl;
      state = λ s shows n. c.schedule-timer.ensures.steps s shows (
        n,
        (let is = c.moment.ensures s shows in let le = shows.sound.moment in let d =
            c.requires.within in omega (arith, is, le, d)),
        c.requires.period,
      );
      places = λ n p. timer_used (λ p. HasPlaces g.Q.TimerQueue.spare p c.schedule-timer.new.self) n
          (c.schedule-timer.ensures.places (places_for n timer_places) p);
    }) refl (c.schedule-timer.ensures.number (summary (past_of h)) now.tracks.state)
    (sym (c.is_alive.ensures (summary (past_of h)) o.tracks.state) ∙ c.if-not-is_alive.false)
    (ap (λ (k : ℕ). k + c.args.delay) (c.moment.ensures (summary (past_of h)) now.tracks.state))
    c.requires.some
    (c.in-Ok.ensures.room t F h o) now

pub returns-in-Err-clause-err : goal.returns-in-Err-clause-err
returns-in-Err-clause-err g c t F h o = stands_kept _ t _ _ F h c.in-Err.ensures.kept o
