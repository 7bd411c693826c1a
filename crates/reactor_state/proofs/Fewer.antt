-- A state that has so many places has fewer.
use Rattle.std.proofs.Common.{ℕ, arith}
use Rattle.reactor_state.specs.State.{HasPlaces, IsFewer}
use Rattle.reactor_state.specs.declared.places.Places.{Places}
use Rattle.reactor_state.specs.declared.state.ReactorState.{ReactorState}

pub has_fewer : {Q : Type 0} (spare : Q → ℕ) (state : ReactorState Q) (few many : Places)
    → IsFewer few many → HasPlaces spare many state → HasPlaces spare few state
has_fewer spare state few many f has = record {
  handles = omega (arith, f.handles, has.handles);
  timers = record {
    timers = omega (arith, f.timers, has.timers.timers);
    owners = omega (arith, f.timers, has.timers.owners);
  };
  waiting = record {
    timeouts = omega (arith, f.timeouts, has.waiting.timeouts);
    notices = omega (arith, f.events, has.waiting.notices);
    outputs = omega (arith, f.events, has.waiting.outputs);
    excepts = omega (arith, f.events, has.waiting.excepts);
    inputs = omega (arith, f.events, has.waiting.inputs);
  };
  opens = omega (arith, f.opens, has.opens);
}
