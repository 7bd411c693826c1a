use Rattle.reactor_state.proofs.Fewer.{has_fewer}
use Rattle.std.proofs.Common.{refl, sym, ap, ◌∙◌, length, arith}
use Rattle.reactor_core.proofs.PollReady.{reports_begin, reports_end, same_reports}
use Rattle.reactor_core.proofs.Frames.{rest_begins, rest_goes_on}
use Rattle.reactor_core.proofs.reactor.Core.take_reports.Goals as goal

pub loop-at-init : goal.loop-at-init
loop-at-init g c = record {
  stands = λ t F h s left k le. reports_begin _ t c.args.self.now F s h _ left (let all =
      c.requires.all in omega (arith, all, le)) k;
  net = refl;
  rest = rest_begins _ _;
}

pub take_report-requires-clause-within : goal.take_report-requires-clause-within
take_report-requires-clause-within g c =
    let same = ap (λ net. length (g.M.Net.facts net).reports) c.loop-at.invariant.net in
    let all = c.requires.all in
    omega (arith, same, all, c.loop-at-test.true)

pub take_report-requires-clause-stands : goal.take_report-requires-clause-stands
take_report-requires-clause-stands g c =
    let o = c.requires.stands in (
      o.0,
      o.1,
      o.2,
      o.3,
      same_reports _ o.0 c.loop-at.self o.1 o.3 o.2 _ _ c.loop-at.at
          (sym c.loop-at.invariant.net) (c.loop-at.invariant.stands o.0 o.1 o.2 o.3 o.4 o.5 o.6),
    )

pub loop-at-preserved : goal.loop-at-preserved
loop-at-preserved g c = record {
  stands = λ t F h s left k le.
      same_reports _ t c.take_report.new.self F s h c.loop-at.self.net _ _ c.loop-at.invariant.net
      (c.take_report.ensures.stands t F h s
      (same_reports _ t c.loop-at.self F s h _ c.loop-at.self.net c.loop-at.at
      (sym c.loop-at.invariant.net) (c.loop-at.invariant.stands t F h s left k le)));
  net = c.take_report.ensures.net ∙ c.loop-at.invariant.net;
  rest = rest_goes_on c.loop-at.invariant.rest c.take_report.ensures.rest;
}

pub returns-clause-stands : goal.returns-clause-stands
returns-clause-stands g c t F h s left k le =
    reports_end _ t c.loop-at.self F s h _ c.loop-at.at (has_fewer g.Q.TimerQueue.spare) (let all =
    c.requires.all in omega (arith, all, c.loop-at-test.false))
    (c.loop-at.invariant.stands t F h s left k le)
