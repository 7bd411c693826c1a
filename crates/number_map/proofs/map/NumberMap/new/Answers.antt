use Rattle.number_map.proofs.Places.{in_order}
use Rattle.number_map.proofs.map.NumberMap.new.Goals as goal

pub returns-clause-ordered : goal.returns-clause-ordered
returns-clause-ordered g c = in_order 0 c.new.result
