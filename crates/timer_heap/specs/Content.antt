-- What a contract sees of a timer heap.
use Rattle.std.specs.Prelude.{ℕ, List}
use Rattle.timer_queue.specs.declared.timer.Timer.{Timer}

-- the heap itself, and how many more timers fit without taking memory
pub record Content : Type 0 where
  pub slots : List Timer
  pub spare : ℕ
