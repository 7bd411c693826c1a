use Rattle.std.proofs.Common.{◌-◌}
use Rattle.std.specs.Vec.{vec_capacity, vec_len}
use Rattle.timer_wheel.proofs.hint.fill_up.Given as goal

abbrev pub decreases-loop-hints : goal.decreases-loop-hints
decreases-loop-hints l = vec_capacity l.hints - vec_len l.hints
