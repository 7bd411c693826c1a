use Rattle.reactor_state.proofs.Fewer.{has_fewer}
use Rattle.reactor_state.specs.State.{HasPlaces}
use Rattle.std.proofs.Common.{refl, sym, ◌∙◌}
use Rattle.reactor_model.specs.reactor_journal.specs.Past.{past_of}
use Rattle.reactor_summary.specs.Summary.{summary}
use Rattle.reactor_core.specs.Stands.{places_for}
use Rattle.reactor_core.specs.Postings.{post_places}
use Rattle.reactor_core.proofs.Posted.{event_used, event_spared, posted, skipped}
use Rattle.reactor_core.proofs.reactor.Core.post_reserved.Goals as goal

pub returns-then-is_alive-clause-stands : goal.returns-then-is_alive-clause-stands
returns-then-is_alive-clause-stands g c t F h o room runs =
    posted _ t c.args.self.now _ F h c.args.handle c.args.kind c.args.from c.args.seq (record {
      appends = record {
        most = refl;
        first = refl;
        journal = c.append.ensures.entries;
        watch = c.append.ensures.watch;
        volumes = refl;
        marks = (refl, refl);
      };
      spare = c.append.ensures.spare;
      repo = refl;
      state = c.post.ensures.steps c.args.from c.args.seq;
      places = λ n p. event_used (λ p. HasPlaces g.Q.TimerQueue.spare p c.post.new.self) n
          (c.post.ensures.places (places_for n post_places) p);
    }) refl (sym (c.is_alive.ensures (summary (past_of h)) o.tracks.state) ∙ c.if-is_alive.true)
    runs room o

pub returns-clause-stands : goal.returns-clause-stands
returns-clause-stands g c t F h o room runs =
    skipped _ t c.args.self.now _ F h c.args.handle c.args.kind c.args.from c.args.seq (record {
      appends = record {
        most = refl;
        first = refl;
        journal = c.append-2.ensures.entries;
        watch = c.append-2.ensures.watch;
        volumes = refl;
        marks = (refl, refl);
      };
      spare = c.append-2.ensures.spare;
      repo = refl;
      state = c.skip.ensures.steps c.args.handle c.args.from c.args.seq;
      places = λ n p. event_spared (λ p. HasPlaces g.Q.TimerQueue.spare p c.skip.new.self)
          ((has_fewer g.Q.TimerQueue.spare) c.skip.new.self) n
          (c.skip.ensures.places (places_for n post_places) p);
    }) refl (sym (c.is_alive.ensures (summary (past_of h)) o.tracks.state) ∙ c.if-is_alive.false)
    runs room o
