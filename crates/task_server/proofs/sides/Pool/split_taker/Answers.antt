use Rattle.task_server.proofs.Moves.{taker_splits}
use Rattle.task_server.proofs.sides.Pool.split_taker.Goals as goal

pub another-pass-requires-clause-rule : goal.another-pass-requires-clause-rule
another-pass-requires-clause-rule g c = taker_splits _ _ c.requires.shares
