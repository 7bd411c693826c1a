use Rattle.reactor_state.proofs.Fewer.{has_fewer}
use Rattle.std.proofs.Common.{refl, sym, ◌∙◌}
use Rattle.reactor_core.proofs.PollReady.{report_goes_on, report_passes, report_may}
use Rattle.reactor_core.proofs.reactor.Core.take_report.Goals as goal

pub returns-then-not-is_wanted-clause-stands : goal.returns-then-not-is_wanted-clause-stands
returns-then-not-is_wanted-clause-stands g c t F h s k =
    report_passes _ t c.args.self.now F s h _ c.args.at c.report-report.result
    (λ s shows. sym (c.is_wanted.ensures s shows) ∙ c.if-not-is_wanted.true)
    c.report-report.ensures k

pub returns-clause-stands : goal.returns-clause-stands
returns-clause-stands g c t F h s k =
    report_goes_on _ t c.args.self.now _ F s h _ c.args.at c.report-report.result (record {
      appends = record {
        most = refl;
        first = refl;
        journal = c.append.ensures.entries;
        watch = c.append.ensures.watch;
        volumes = refl;
        marks = (refl, refl);
      };
      spare = c.append.ensures.spare;
      repo = refl;
      net = refl;
      state = c.ready.ensures.steps;
      places = c.ready.ensures.places;
    }) (λ s shows. sym (c.is_wanted.ensures s shows) ∙ c.if-not-is_wanted.false)
    c.report-report.ensures k

pub ready-requires-clause-can : goal.ready-requires-clause-can
ready-requires-clause-can g c =
    let o = c.requires.stands in
    (report_may _ o.0 c.args.self.now o.1 o.3 o.2 _ c.args.at (has_fewer g.Q.TimerQueue.spare)
    c.requires.within o.4).can

pub ready-requires-clause-room : goal.ready-requires-clause-room
ready-requires-clause-room g c =
    let o = c.requires.stands in
    (report_may _ o.0 c.args.self.now o.1 o.3 o.2 _ c.args.at (has_fewer g.Q.TimerQueue.spare)
    c.requires.within o.4).place

pub append-requires : goal.append-requires
append-requires g c =
    let o = c.requires.stands in
    (report_may _ o.0 c.args.self.now o.1 o.3 o.2 _ c.args.at (has_fewer g.Q.TimerQueue.spare)
    c.requires.within o.4).spare
