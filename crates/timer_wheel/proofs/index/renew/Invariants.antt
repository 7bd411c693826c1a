use Rattle.std.proofs.Common.{◌≡◌, map, take}
use Rattle.std.specs.Vec.{vec_capacity}
use Rattle.timer_wheel.specs.Spokes.{timers_of}
use Rattle.timer_wheel.specs.Index.{entry_of_timer}
use Rattle.timer_wheel.proofs.index.renew.Given as goal

abbrev pub invariant-loop-place : goal.invariant-loop-place
invariant-loop-place l =
    (l.index.items ≡ map entry_of_timer (timers_of (take l.place-index l.places)))
    × (vec_capacity l.index ≡ vec_capacity l.initial.index)
