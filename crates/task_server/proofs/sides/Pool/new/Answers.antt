use Rattle.task_server.proofs.Moves.{begins, sides_part}
use Rattle.task_server.proofs.sides.Pool.new.Goals as goal

pub ruled-requires-clause-rule : goal.ruled-requires-clause-rule
ruled-requires-clause-rule g c = begins

pub another-other-requires-clause-rule : goal.another-other-requires-clause-rule
another-other-requires-clause-rule g c = sides_part _ _
