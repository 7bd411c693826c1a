use Rattle.std.proofs.Common.{refl, sym, ◌∙◌, arith}
use Rattle.reactor_model.specs.reactor_journal.specs.Past.{past_of}
use Rattle.reactor_summary.specs.Summary.{summary}
use Rattle.reactor_core.proofs.Started.{home_found}
use Rattle.reactor_core.proofs.Removed.{removed_on, removed_out, not_home_busy, alive_is_live}
use Rattle.reactor_core.proofs.Removed.{both_owed, number_of, closes_now, removed_closed}
use Rattle.reactor_core.proofs.reactor.Core.remove_alive.Goals as goal

pub returns-in_default-clause-stands : goal.returns-in_default-clause-stands
returns-in_default-clause-stands g c t F h st alive =
    removed_out _ t c.args.self.now _ F h c.args.handle st alive
    (not_home_busy g.H.EventHandler.means t (past_of h) c.args.handle.0 c.args.self.now.repo.entries
    (sym c.take.ensures.taken ∙ c.in_default.is)
    (alive_is_live (summary (past_of h)) c.args.handle.0 alive) st.tracks.repository)
    (removed_on _ t c.args.self.now _ F h c.args.handle (record {
      appends = record {
        most = refl;
        first = refl;
        journal = c.append.ensures.entries;
        watch = c.append.ensures.watch;
        volumes = refl;
        marks = (refl, refl);
      };
      state = λ s shows n. c.remove.ensures.steps s shows n;
      repo = c.in_default.ensures.unchanged;
      net = refl;
    }) alive (number_of _ t c.args.self.now F h c.args.handle st alive) st.tracks)
    (record {
      journal = let s = c.append.ensures.spare in omega (arith, s);
      places = c.remove.ensures.places;
      seats = let s = c.take.ensures.spare in omega (arith, s);
      net = omega arith;
    })

pub close_handler-requires-clause-room : goal.close_handler-requires-clause-room
close_handler-requires-clause-room g c =
    let o = c.requires.stands in
    let two = both_owed (past_of o.2) c.args.handle o.4 in
    let r = o.3.room.journal in
    let s = c.append.ensures.spare in
    omega (arith, two, r, s)

pub close_handler-requires-clause-may : goal.close_handler-requires-clause-may
close_handler-requires-clause-may g c =
    let o = c.requires.stands in
    let n = closes_now _ o.0 c.args.self.now
    (record c.args.self.now {
      journal = c.append.new.journal;
      state = c.remove.new.self;
      watch = c.append.new.watch;
    }) (record c.args.self.now {
      journal = c.append.new.journal;
      state = c.remove.new.self;
      watch = c.append.new.watch;
      repo = c.take.new.self;
    }) o.1 o.2
    c.args.handle c.in-Some.handler (record {
      appends = record {
        most = refl;
        first = refl;
        journal = c.append.ensures.entries;
        watch = c.append.ensures.watch;
        volumes = refl;
        marks = (refl, refl);
      };
      state = λ s shows n. c.remove.ensures.steps s shows n;
      repo = refl;
      net = refl;
    }) (record {
      most = refl;
      first = refl;
      journal = refl;
      state = refl;
      home = home_found _ c.in-Some.handler (sym c.take.ensures.taken ∙ c.in-Some.is);
      repo = c.in-Some.ensures.out;
      net = refl;
      watch = refl;
      volumes = refl;
      marks = refl;
    }) o.3 o.4
    in
    (o.0, o.1, _, record { tracks = n.tracks; closable = n.closable; number = n.number })

pub returns-clause-stands : goal.returns-clause-stands
returns-clause-stands g c t F h st alive =
    let n = closes_now _ t c.args.self.now
    (record c.args.self.now {
      journal = c.append.new.journal;
      state = c.remove.new.self;
      watch = c.append.new.watch;
    }) (record c.args.self.now {
      journal = c.append.new.journal;
      state = c.remove.new.self;
      watch = c.append.new.watch;
      repo = c.take.new.self;
    }) F h c.args.handle
    c.in-Some.handler (record {
      appends = record {
        most = refl;
        first = refl;
        journal = c.append.ensures.entries;
        watch = c.append.ensures.watch;
        volumes = refl;
        marks = (refl, refl);
      };
      state = λ s shows n. c.remove.ensures.steps s shows n;
      repo = refl;
      net = refl;
    }) (record {
      most = refl;
      first = refl;
      journal = refl;
      state = refl;
      home = home_found _ c.in-Some.handler (sym c.take.ensures.taken ∙ c.in-Some.is);
      repo = c.in-Some.ensures.out;
      net = refl;
      watch = refl;
      volumes = refl;
      marks = refl;
    }) st alive
    in
    let closed = c.close_handler.ensures.tracks t F _
    (record { tracks = n.tracks; closable = n.closable; number = n.number }) in
    removed_closed _ t c.args.self.now _ _ F h c.args.handle c.in-Some.handler closed.0 n closed.1
    (record {
      journal = let s = c.append.ensures.spare in let r =
          c.close_handler.ensures.room.journal in omega (arith, s, r);
      places = λ p k. c.close_handler.ensures.room.places p (c.remove.ensures.places p k);
      seats = let s =
          c.take.ensures.spare in let r = c.close_handler.ensures.room.seats in
          omega (arith, s, r);
      net = c.close_handler.ensures.room.net;
    })
    st alive
