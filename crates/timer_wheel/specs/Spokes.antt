-- A hashed timing wheel (C++NPv2 section 3.4, `ACE_Timer_Wheel`; Varghese and Lauck, Hashed and
-- hierarchical timing wheels).
use Rattle.std.specs.Prelude.{ℕ, ◌≡◌, ◌/◌, ◌%◌, ◌==◌, List, [], ◌∷◌, map, filter, slice_get, Option}
use Rattle.std.specs.Prelude.{Some, None}
use Rattle.timer_queue.specs.declared.timer.Timer.{Timer}
use Rattle.timer_wheel.specs.declared.place.Place.{Place}

-- the spoke of a deadline: its tick, that is the deadline by the resolution, round the wheel
abbrev pub spoke_of : ℕ → ℕ → ℕ → ℕ
spoke_of spokes resolution deadline = (deadline / resolution) % spokes

-- those timers of the list that stand in a spoke
abbrev pub of_spoke : ℕ → ℕ → ℕ → List Timer → List Timer
of_spoke spokes resolution spoke timers =
    filter (λ t. spoke_of spokes resolution t.deadline == spoke) timers

-- the timers that stand in the places
abbrev pub timers_of : List Place → List Timer
timers_of places = map (λ p. p.timer) places

-- the chain from here along `next` has these timers, one after another, and then ends
abbrev pub Follows : List Place → Option ℕ → List Timer → Type 0
Follows places at [] = at ≡ None
Follows places at (t ∷ rest) = (k : ℕ) × (at ≡ Some k) × (p : Place) × (slice_get places k ≡ Some p)
    × (p.timer ≡ t) × Follows places p.next rest
