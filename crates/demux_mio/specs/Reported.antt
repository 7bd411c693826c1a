-- The reports of standard input.
use Rattle.std.specs.Prelude.{◌==◌, ◌-◌, ◌^◌, Bool}
use Rattle.mio.specs.declared.event.event.Event.{Event}
use Rattle.mio.specs.Event.{event_token}

-- the event is of standard input, whose token no handle has
abbrev pub is_of_control : Event → Bool
is_of_control e = (event_token e).0 == 2 ^ 64 - 2
