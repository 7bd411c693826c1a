use Rattle.reactor_core.proofs.Over.{none_live}
use Rattle.reactor_core.proofs.laws.stopped_is_over.Goals as goal

pub returns : goal.returns
returns c s settled ended none = record {
  ended = ended;
  none_live = none_live s.handles s.opens none (settled.none_alive ended) settled.none_waits;
}
