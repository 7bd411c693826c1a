-- Room for so many is room for fewer.
use Rattle.std.proofs.Common.{ℕ, ◌≤◌, arith}
use Rattle.reactor_state.specs.declared.places.Places.{Places}
use Rattle.reactor_state.specs.declared.state.ReactorState.{ReactorState}
use Rattle.reactor_state.specs.State.{HasPlaces}

module _ {Q : Type 0} where
  pub fewer_places : (spare : Q → ℕ) (few many : Places) (state : ReactorState Q)
      → few.handles ≤ many.handles → few.timers ≤ many.timers → few.timeouts ≤ many.timeouts
      → few.events ≤ many.events → few.opens ≤ many.opens
      → HasPlaces spare many state → HasPlaces spare few state
  fewer_places spare few many state handles timers timeouts events opens has = record {
    handles = omega (arith, has.handles, handles);
    timers = record {
      timers = omega (arith, has.timers.timers, timers);
      owners = omega (arith, has.timers.owners, timers);
    };
    waiting = record {
      timeouts = omega (arith, has.waiting.timeouts, timeouts);
      notices = omega (arith, has.waiting.notices, events);
      outputs = omega (arith, has.waiting.outputs, events);
      excepts = omega (arith, has.waiting.excepts, events);
      inputs = omega (arith, has.waiting.inputs, events);
    };
    opens = omega (arith, has.opens, opens);
  }
