-- What a contract sees of a timer wheel.
use Rattle.std.specs.Prelude.{ℕ, List, Option}
use Rattle.timer_wheel.specs.declared.place.Place.{Place}

-- the first place of each spoke's chain, the places, the milliseconds of a tick, and how many more
-- timers fit without taking memory
pub record Content : Type 0 where
  pub heads : List (Option ℕ)
  pub places : List Place
  pub resolution : ℕ
  pub spare : ℕ
