use Rattle.std.proofs.Common.{arith, ◌≡◌, ◌==◌, ◌≤◌, false}
use Rattle.std.proofs.lemmas.Bool.Decides.{nat_tests}
use Rattle.bench_parts.proofs.Fresh.{fresh_with}
use Rattle.bench_parts.proofs.queues.fill.Goals as goal

pub loop-timer-preserved : goal.loop-timer-preserved
loop-timer-preserved g c = (
  omega (arith, c.schedule.ensures.spare, c.loop-timer.invariant.0),
  λ number above.
      let other : (c.loop-timer.timer == number) ≡ false = grind (arith, nat_tests) in
      let old = c.loop-timer.invariant.1 number (omega arith) in
      rw c.schedule.ensures.timers (fresh_with number _ _ other old),
)
