use Rattle.std.proofs.Common.{take, Some}
use Rattle.timer_wheel.specs.Spokes.{timers_of}
use Rattle.timer_wheel.proofs.Firsts.{IsEarliest}
use Rattle.timer_wheel.proofs.first.first_of_places.Given as goal

abbrev pub invariant-loop-at : goal.invariant-loop-at
invariant-loop-at l = IsEarliest (timers_of (take l.at l.places)) (Some l.first)
