-- The timers that a reactor's user sets and takes away, and why that is refused (C++NPv2 chapter 3,
-- `schedule_timer` and `cancel_timer` of `ACE_Reactor`).
use Rattle.std.specs.Prelude.{ℕ, ◌≡◌, ◌↔◌, Bool, false, ◌||◌, Result, IsErrOf}
use Rattle.reactor_summary.specs.Summary.{Summary, is_armed, timeout_waits}
use Rattle.reactor_state.specs.declared.places.Places.{Places}
use Rattle.reactor_core.specs.declared.timers.CancelRefused.{CancelRefused}
use Rattle.reactor_core.specs.declared.timers.CancelRefused.TheVariants.{NotArmed}

-- the places of one timer
abbrev pub timer_places : Places
timer_places = record { handles = 0; timers = 1; timeouts = 0; events = 0; opens = 0 }

-- whether a timer is armed, or an event of it waits to be started
abbrev pub is_pending : Summary → ℕ → Bool
is_pending s timer = is_armed s timer || timeout_waits s timer

-- Why a timer is not cancelled: `NotArmed` exactly if it is neither armed nor waits as an event.
abbrev pub IsCancelAnswer : Summary → ℕ → Result (Unit {0}) CancelRefused → Type 0
IsCancelAnswer s timer result = IsErrOf result NotArmed ↔ (is_pending s timer ≡ false)
