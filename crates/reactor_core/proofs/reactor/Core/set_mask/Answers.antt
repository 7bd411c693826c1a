use Rattle.std.proofs.Common.{refl, sym, ◌∙◌}
use Rattle.reactor_model.specs.reactor_journal.specs.Past.{past_of}
use Rattle.reactor_model.specs.reactor_journal.specs.Follow.{follows_due, follows_ready}
use Rattle.reactor_model.specs.reactor_journal.specs.declared.entry.Entry.TheVariants.{Masked}
use Rattle.reactor_summary.specs.Summary.{summary}
use Rattle.reactor_state.specs.State.{HasNumber, no_places}
use Rattle.reactor_core.proofs.Kept.{stands_kept}
use Rattle.reactor_core.proofs.Quiet.{goes_on, has_number}
use Rattle.reactor_core.proofs.Masking.{live_not_live, live_ok, live_no_memory, alive_attached}
use Rattle.reactor_core.proofs.Masking.{masked_follows, net_set}
use Rattle.reactor_core.proofs.WaitNumbers.{told_quiet}
use Rattle.reactor_core.proofs.reactor.Core.set_mask.Goals as goal

pub returns-then-not-is_alive-clause-cause : goal.returns-then-not-is_alive-clause-cause
returns-then-not-is_alive-clause-cause g c t F h o =
    live_not_live (summary (past_of h)) c.args.handle.0
    (sym (c.is_alive.ensures (summary (past_of h)) o.tracks.state) ∙ c.if-not-is_alive.true)

pub returns-in-Err-clause-cause : goal.returns-in-Err-clause-cause
returns-in-Err-clause-cause g c t F h o =
    live_no_memory (summary (past_of h)) c.args.handle.0
    (sym (c.is_alive.ensures (summary (past_of h)) o.tracks.state) ∙ c.if-not-is_alive.false)

pub set_mask-requires : goal.set_mask-requires
set_mask-requires g c =
    let o = c.requires.stands in
    alive_attached _ o.0 c.make_room.new.self o.1 o.2 c.args.handle.0
    (stands_kept _ o.0 _ _ o.1 o.2 c.in-Ok.ensures.kept o.3).tracks
    (sym (c.is_alive.ensures (summary (past_of o.2)) o.3.tracks.state)
    ∙ c.if-not-is_alive.false)

pub returns-clause-cause : goal.returns-clause-cause
returns-clause-cause g c t F h o =
    live_ok (summary (past_of h)) c.args.handle.0 _
    (sym (c.is_alive.ensures (summary (past_of h)) o.tracks.state) ∙ c.if-not-is_alive.false)

pub returns-clause-ok : goal.returns-clause-ok
returns-clause-ok g c t F h o =
    let now = stands_kept _ t _ _ F h c.in-Ok.ensures.kept o in
    let room = c.in-Ok.ensures.room t F h o in
    goes_on _ t c.make_room.new.self _ F h (Masked c.args.handle c.args.mask) no_places HasNumber
    refl (record {
      appends = record {
        most = refl;
        first = refl;
        journal = c.append.ensures.entries;
        watch = c.append.ensures.watch;
        volumes = refl;
        marks = (refl, told_quiet _ _ _ c.set_mask.ensures.sets.calls (λ calls. refl));
      };
      spare = c.append.ensures.spare;
      repo = refl;
      state = c.set_mask-2.ensures.steps;
      places = λ n p. c.set_mask-2.ensures.places _ p;
    }) (net_set _ t c.make_room.new.self _ F h c.args.handle c.args.mask c.set_mask.ensures.sets
    c.set_mask.ensures.kept now.tracks)
    (masked_follows g.row.H-Note.Denot t.most (follows_due (past_of h)) (follows_ready (past_of h))
    (summary (past_of h)) c.args.handle c.args.mask o.settled
    (sym (c.is_alive.ensures (summary (past_of h)) o.tracks.state) ∙ c.if-not-is_alive.false))
    (λ legal. o.settled.none_due)
    (has_number _ _ _ _ room)
    room now

pub returns-in-Err-clause-err : goal.returns-in-Err-clause-err
returns-in-Err-clause-err g c t F h o = stands_kept _ t _ _ F h c.in-Err.ensures.kept o
