use Rattle.std.proofs.Common.{sym, refl, ◌∙◌, false, true}
use Rattle.reactor_model.specs.reactor_journal.specs.Past.{past_of}
use Rattle.reactor_summary.specs.Summary.{summary}
use Rattle.reactor_core.proofs.Stopped.{ended_on, stops, stops_once}
use Rattle.reactor_core.proofs.reactor.Core.stop.Goals as goal

pub returns-then-is_ended-clause-stands : goal.returns-then-is_ended-clause-stands
returns-then-is_ended-clause-stands g c t F h st =
    stops_once _ t c.args.self.now F h true
    (sym (c.is_ended.ensures (summary (past_of h)) st.tracks.state) ∙ c.if-is_ended.true) st

pub remove_all-requires : goal.remove_all-requires
remove_all-requires g c =
    let o = c.requires.stands in record {
      stands = (
        o.0,
        o.1,
        _,
        ended_on _ o.0 c.args.self.now _ o.1 o.2 (record {
          appends = record {
            most = refl;
            first = refl;
            journal = c.append.ensures.entries;
            watch = c.append.ensures.watch;
            volumes = refl;
            marks = (refl, refl);
          };
          spare = c.append.ensures.spare;
          state = λ s shows n. c.end.ensures.steps s shows n;
          places = c.end.ensures.places;
          repo = refl;
          net = refl;
        }) (sym (c.is_ended.ensures (summary (past_of o.2)) o.3.tracks.state) ∙ c.if-is_ended.false)
            o.3,
        tt,
      );
    }

pub returns-clause-stands : goal.returns-clause-stands
returns-clause-stands g c t F h st =
    let running = sym (c.is_ended.ensures (summary (past_of h)) st.tracks.state)
    ∙ c.if-is_ended.false in
    stops_once _ t _ F h false running
    (stops _ t _ F h (c.remove_all.ensures.stands t F _
    (ended_on _ t c.args.self.now _ F h (record {
      appends = record {
        most = refl;
        first = refl;
        journal = c.append.ensures.entries;
        watch = c.append.ensures.watch;
        volumes = refl;
        marks = (refl, refl);
      };
      spare = c.append.ensures.spare;
      state = λ s shows n. c.end.ensures.steps s shows n;
      places = c.end.ensures.places;
      repo = refl;
      net = refl;
    }) running st)))
