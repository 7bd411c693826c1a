-- What a contract sees of a timer queue.
use Rattle.std.specs.Prelude.{ℕ, List}
use Rattle.timer_queue.specs.declared.timer.Timer.{Timer}

-- the timers in order of (deadline, timer), and how many more fit without taking memory
pub record Content : Type 0 where
  pub timers : List Timer
  pub spare : ℕ
