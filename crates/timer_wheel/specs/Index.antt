-- How a wheel finds a timer by its number.
use Rattle.std.specs.Prelude.{ℕ, ◌≤◌, List, length, Contains, Option}
use Rattle.timer_queue.specs.declared.timer.Timer.{Timer}
use Rattle.timer_index.specs.declared.index.Numbered.{Numbered}
use Rattle.timer_index.specs.Index.{IsRising}
use Rattle.timer_wheel.specs.declared.place.Place.{Place}
use Rattle.timer_wheel.specs.Spokes.{timers_of}
use Rattle.timer_wheel.specs.Chains.{IsWheel}

-- the entry of a timer: its number and its deadline
abbrev pub entry_of_timer : Timer → Numbered
entry_of_timer t = record { timer = t.timer; key = t.deadline }

-- each of these timers has its entry
abbrev pub Covers : List Numbered → List Timer → Type 0
Covers index timers = (t : Timer) → Contains timers t → Contains index (entry_of_timer t)

-- what a wheel keeps with its index: room in both for as many timers as fit
pub record IsKept (spokes resolution : ℕ) (heads : List (Option ℕ)) (places : List Place)
    (first : Option Timer) (index : List Numbered) (room places_room index_room : ℕ) : Type 0 where
  pub wheel : IsWheel spokes resolution heads places first
  pub rising : IsRising index
  pub covers : Covers index (timers_of places)
  pub fits : length places ≤ room
  pub places_fit : room ≤ places_room
  pub index_fits : room ≤ index_room
