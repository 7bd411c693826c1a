use Rattle.reactor_state.proofs.Fewer.{has_fewer}
use Rattle.std.proofs.Common.{sym, refl, arith, ◌∙◌}
use Rattle.reactor_model.specs.reactor_journal.specs.Past.{past_of}
use Rattle.reactor_core.specs.Stands.{places_for, upcall_places}
use Rattle.reactor_core.proofs.Start.{pick_facts}
use Rattle.reactor_core.proofs.Started.{started, home_at, home_found, not_away}
use Rattle.reactor_core.proofs.reactor.Core.dispatch.Goals as goal

pub unreachable-requires : goal.unreachable-requires
unreachable-requires g c =
    let o = c.requires.may in
    let st = o.3.stands.tracks in
    let home = home_at _ o.0 (past_of o.2) c.args.pick.event.handle.0 c.args.self.now.repo.entries
    (pick_facts o.0.most (past_of o.2) c.args.pick.event st.legal o.3.pick).free st.repository
    in
    not_away home.1 (sym c.take.ensures.taken ∙ c.in-None.is)

pub start-requires-clause-room : goal.start-requires-clause-room
start-requires-clause-room g c =
    let o = c.requires.may in
    (has_fewer g.Q.TimerQueue.spare) c.args.self.now.state _ (places_for _ upcall_places)
    (record {
      handles = omega arith;
      timers = omega arith;
      timeouts = omega arith;
      events = omega arith;
      opens = omega arith;
    }) o.3.room.state

pub returns-clause-stands : goal.returns-clause-stands
returns-clause-stands g c t F h o =
    started _ t c.args.self.now _ F h c.args.pick.event _ refl refl refl c.moment-moment.ensures
    (record {
      appends = record {
        most = refl;
        first = refl;
        journal = c.append.ensures.entries;
        watch = c.append.ensures.watch;
        volumes = refl;
        marks = (refl, refl);
      };
      spare = c.append.ensures.spare;
      home = home_found _ c.in-Some.handler (sym c.take.ensures.taken ∙ c.in-Some.is);
      repo = c.in-Some.ensures.out;
      seats = c.take.ensures.spare;
      state = c.start.ensures.steps;
      places = c.start.ensures.places;
      net = refl;
    }) o.pick o.room o.stands
