use Rattle.reactor_state.proofs.Stepped.{armed_once}
use Rattle.reactor_state.proofs.state.ReactorState.armed_handle.Goals as goal

pub returns : goal.returns
returns g c s shows = c.handle_of.ensures s.armed shows.tables.armed (armed_once s shows.sound)
