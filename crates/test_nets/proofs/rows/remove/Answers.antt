use Rattle.test_nets.proofs.Idling.{removes_or}
use Rattle.test_nets.proofs.rows.remove.Goals as goal

pub returns : goal.returns
returns g c = removes_or _ _ _ c.remove.result c.requires c.remove.ensures.ok c.remove.ensures.err
