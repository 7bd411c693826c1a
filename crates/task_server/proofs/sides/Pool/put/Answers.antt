use Rattle.task_server.proofs.Moves.{puts, puts_learn}
use Rattle.task_server.proofs.sides.Pool.put.Goals as goal

pub push_as-requires-clause-rule : goal.push_as-requires-clause-rule
push_as-requires-clause-rule g c = (puts _ _ _ _ c.args.p.now.puts, puts_learn _ _)
