use Rattle.std.proofs.Common.{None, refl}
use Rattle.core_loop.proofs.Leading.{failed_so, goes_running, goes_same, goes_so, runs_nothing}
use Rattle.core_loop.proofs.Leading.{same_below}
use Rattle.core_loop.proofs.turns.advance.Goals as goal

pub returns-then-is_broken-clause-leads : goal.returns-then-is_broken-clause-leads
returns-then-is_broken-clause-leads g c = λ t F h stands fits none.
    goes_same _ t h _ F _ stands none (runs_nothing _ t c.args.until _ _ F h h refl
    (same_below c.args.until h h refl))

pub returns-in-Ok-clause-leads : goal.returns-in-Ok-clause-leads
returns-in-Ok-clause-leads g c = λ t F h stands fits none.
    let a = c.hand_over.ensures.leads t F h stands none in
    let b = goes_so _ t h _ _ _ a (runs_nothing _ t c.args.until None 0 a.first h a.history a.so
    (same_below c.args.until h a.history a.so)) in
    goes_running _ t c.args.until _ _ _ h _ _ b
    (c.step.ensures.leads t b.first b.history b.stands fits b.none_open)

pub returns-in-Err-clause-leads : goal.returns-in-Err-clause-leads
returns-in-Err-clause-leads g c = λ t F h stands fits none.
    let a = c.hand_over.ensures.leads t F h stands none in
    goes_so _ t h _ _ _ a (runs_nothing _ t c.args.until _ _ a.first h a.history a.so
    (failed_so _ t c.args.until c.in-Err.end _ _ _ a.first h a.history c.in-Err.ensures.err
    (same_below c.args.until h a.history a.so)))
