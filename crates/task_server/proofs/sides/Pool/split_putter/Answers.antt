use Rattle.task_server.proofs.Moves.{putter_splits}
use Rattle.task_server.proofs.sides.Pool.split_putter.Goals as goal

pub another-pass-requires-clause-rule : goal.another-pass-requires-clause-rule
another-pass-requires-clause-rule g c = putter_splits _ _ c.requires.shares
