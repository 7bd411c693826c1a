use Rattle.task_server.proofs.Moves.{taker_joins}
use Rattle.task_server.proofs.sides.Pool.join_taker.Goals as goal

pub absorb-requires-clause-rule : goal.absorb-requires-clause-rule
absorb-requires-clause-rule g c = taker_joins _ _ _ _ c.args.root.now.takes c.args.other.apart
