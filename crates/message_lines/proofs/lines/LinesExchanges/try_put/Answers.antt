use Rattle.message_lines.proofs.Moves.{sends}
use Rattle.message_lines.proofs.lines.LinesExchanges.try_put.Goals as goal

pub try_push_as-requires-clause-rule : goal.try_push_as-requires-clause-rule
try_push_as-requires-clause-rule c = sends _ _ _ _ c.args.self.now.can_put
