use Rattle.std.proofs.Common.{refl, arith, ◌∙◌, rules}
use Rattle.core_loop.proofs.Leading.{goes_running, goes_same, known_end, runs_nothing, same_below}
use Rattle.core_loop.proofs.turns.run.Goals as goal

pub loop-init : goal.loop-init
loop-init g c = record {
  idle = c.requires;
  within = λ i. i;
  leads = λ t F h stands fits none.
      goes_same _ t h _ F _ stands none (runs_nothing _ t c.args.until _ _ F h h refl
      (same_below c.args.until h h refl));
  volumes = refl;
  waits = omega arith;
}

pub loop-preserved : goal.loop-preserved
loop-preserved g c = record {
  idle = search rules;
  within = search rules;
  leads = λ t F h stands fits none.
      let a = c.loop.invariant.leads t F h stands fits none in
      goes_running _ t c.args.until _ _ _ h _ _ a
      (known_end _ t c.args.until _ a.history _ c.advance.result _ c.in_default.is
      (c.advance.ensures.leads t a.first a.history a.stands fits a.none_open));
  volumes = search rules;
  waits = search rules;
}

pub returns-in-Some-advance-clause-leads : goal.returns-in-Some-advance-clause-leads
returns-in-Some-advance-clause-leads g c = λ t F h stands fits none.
    let a = c.loop.invariant.leads t F h stands fits none in
    goes_running _ t c.args.until _ _ _ h _ _ a
    (known_end _ t c.args.until _ a.history _ c.advance.result _ c.in-Some-advance.is
    (c.advance.ensures.leads t a.first a.history a.stands fits a.none_open))
