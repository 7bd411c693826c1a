use Rattle.std.proofs.Common.{◌≡◌, ◌+◌, ◌<◌, ◌≤◌, ◌/◌, ◌%◌, length}
use Rattle.timer_queue.specs.declared.timer.Timer.{Timer}
use Rattle.timer_queue.proofs.Members.{Among}
use Rattle.timer_wheel.specs.Spokes.{timers_of}
use Rattle.timer_wheel.proofs.chain.Chains.next_from.Given as goal

abbrev pub invariant-loop-turn : goal.invariant-loop-turn
invariant-loop-turn l = record {
  within : l.at < length l.self.heads.items;
  spoke : l.at ≡ (l.tick + l.turn) % length l.self.heads.items;
  later : (u : Timer) → Among u (timers_of l.self.places.items) → l.tick + l.turn
      ≤ u.deadline / l.self.resolution;
}
