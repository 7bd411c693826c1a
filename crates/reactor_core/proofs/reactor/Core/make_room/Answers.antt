use Rattle.std.proofs.Common.{◌≡◌, ◌+◌, ap, ◌∙◌, subst, arith, length}
use Rattle.reactor_model.specs.reactor_journal.specs.Past.{past_of}
use Rattle.reactor_summary.specs.Summary.{Summary, summary}
use Rattle.reactor_state.specs.State.{owed, HasPlaces}
use Rattle.reactor_state.specs.declared.places.Places.{Places}
use Rattle.reactor_core.specs.Stands.{places_for}
use Rattle.reactor_core.proofs.reactor.Core.make_room.Goals as goal

pub returns-clause-room : goal.returns-clause-room
returns-clause-room g c t F h o =
    let s : Summary = summary (past_of h) in
    let open_is : c.open_count-open.result ≡ length s.opens =
    c.open_count-open.ensures s o.tracks.state in
    let owed_is : c.owed.result ≡ owed s = c.owed.ensures s o.tracks.state in
    let held : c.entries.result ≡ s.entries = c.entries.ensures s o.tracks.state in
    let places : c.in-Some-places_for.places ≡ places_for (length s.opens) c.args.more =
    c.in-Some-places_for.ensures.places ∙ ap (λ n. places_for n c.args.more) open_is in
    let more : c.in-Some-places_for.places.handles ≡ length s.opens + c.args.more.handles =
    ap (λ (p : Places). p.handles) places in
    record {
      journal = omega (arith, c.in_ok-reserve.ensures.room, c.in-Some.ensures.entries, owed_is);
      numbers = omega (arith, c.in-Some.ensures.within, c.in-Some.ensures.entries, owed_is, held);
      state = subst (λ p. HasPlaces g.Q.TimerQueue.spare p c.reserve-2.new.self) places
          c.in_ok-reserve-2.ensures.room;
      repository = omega (arith, c.in_ok-reserve-3.ensures.spare, more);
      net = omega (arith, c.in_ok-reserve-4.ensures.places, more);
    }
