use Rattle.task_server.proofs.Moves.{takes, takes_learn}
use Rattle.task_server.proofs.sides.Pool.take.Goals as goal

pub pop_as-requires-clause-rule : goal.pop_as-requires-clause-rule
pop_as-requires-clause-rule g c = (takes _ _ c.args.t.now.takes, takes_learn _ _)
