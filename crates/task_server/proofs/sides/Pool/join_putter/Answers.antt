use Rattle.task_server.proofs.Moves.{putter_joins}
use Rattle.task_server.proofs.sides.Pool.join_putter.Goals as goal

pub absorb-requires-clause-rule : goal.absorb-requires-clause-rule
absorb-requires-clause-rule g c = putter_joins _ _ _ _ c.args.root.now.puts c.args.other.apart
