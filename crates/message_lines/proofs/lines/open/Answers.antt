use Rattle.std.proofs.Common.{rules}
use Rattle.message_lines.proofs.Moves.{begins, forks}
use Rattle.message_lines.proofs.lines.open.Goals as goal

pub ruled-requires-clause-rule : goal.ruled-requires-clause-rule
ruled-requires-clause-rule c = begins

pub ruled-requires-2-clause-rule : goal.ruled-requires-2-clause-rule
ruled-requires-2-clause-rule c = begins

pub another-their_takes-requires-clause-rule : goal.another-their_takes-requires-clause-rule
another-their_takes-requires-clause-rule c = forks _ _ (search rules) (search rules)

pub another-takes-requires-clause-rule : goal.another-takes-requires-clause-rule
another-takes-requires-clause-rule c = forks _ _ (search rules) (search rules)
