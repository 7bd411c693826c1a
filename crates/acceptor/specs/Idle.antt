-- After how many quiet milliseconds a connection of the logging server is closed (this project's
-- own).
use Rattle.std.specs.Prelude.{◌≡◌, ◌≤◌, ℕ, Option, Some, None}
use Rattle.reactor_model.specs.Turns.{most_milliseconds}

-- an idle time, if it is given, can be the delay of a timer
abbrev pub IsIdleTime : Option ℕ → Type 0
IsIdleTime time = (idle : ℕ) → time ≡ Some idle → (1 ≤ idle) × (idle ≤ most_milliseconds)

-- the timer of a connection with this idle time, as first delay and period: it comes due each time
-- that so much has gone by
abbrev pub idle_timer : Option ℕ → Option (ℕ × ℕ)
idle_timer None = None
idle_timer (Some idle) = Some (idle, idle)
