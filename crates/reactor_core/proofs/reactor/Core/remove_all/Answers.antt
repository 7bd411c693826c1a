use Rattle.std.proofs.Common.{arith}
use Rattle.reactor_model.specs.reactor_journal.specs.Past.{past_of}
use Rattle.reactor_summary.specs.Summary.{summary}
use Rattle.reactor_core.proofs.Stopped.{removes_none, removes_more, removes_all, none_left_of}
use Rattle.reactor_core.proofs.Stopped.{removes_stopped}
use Rattle.reactor_core.proofs.Frames.{rest_begins, rest_goes_on}
use Rattle.reactor_core.proofs.reactor.Core.remove_all.Goals as goal

pub loop-removed-init : goal.loop-removed-init
loop-removed-init g c = record {
  stands = λ t F h st. removes_none _ t c.args.self.now F h st;
  rest = rest_begins _ _;
}

pub remove_first-requires : goal.remove_first-requires
remove_first-requires g c =
    let o = c.requires.stands in
    let r = c.loop-removed.invariant.stands o.0 o.1 o.2 o.3 in
    record { stands = (o.0, o.1, _, r.stands, tt) }

pub loop-removed-preserved : goal.loop-removed-preserved
loop-removed-preserved g c = record {
  stands = λ t F h st.
      let r = c.loop-removed.invariant.stands t F h st in
      removes_more _ c.loop-removed._removed t c.loop-removed.self _ F h r
      (c.remove_first.ensures.some c.if-not-remove_first.false t F _ r.stands);
  rest = rest_goes_on c.loop-removed.invariant.rest c.remove_first.ensures.rest;
}

pub returns-then-not-remove_first-clause-stands : goal.returns-then-not-remove_first-clause-stands
returns-then-not-remove_first-clause-stands g c t F h st =
    let r = c.loop-removed.invariant.stands t F h st in
    removes_stopped _ c.loop-removed._removed t c.loop-removed.self _ F h r
    (c.remove_first.ensures.same c.if-not-remove_first.true)
    (c.remove_first.ensures.none c.if-not-remove_first.true t F _ r.stands)

pub returns-clause-stands : goal.returns-clause-stands
returns-clause-stands g c t F h st =
    let r = c.loop-removed.invariant.stands t F h st in
    let counted = c.alive_count-removed-end.ensures (summary (past_of h)) st.tracks.state in
    removes_all _ c.loop-removed._removed t _ F h r
    (none_left_of _ c.loop-removed._removed t _ F h r (let test = c.loop-removed-test.false in
    omega (arith, counted, test)))
