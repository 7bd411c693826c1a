use Rattle.message_lines.proofs.Moves.{sends}
use Rattle.message_lines.proofs.lines.Lines.stop.Goals as goal

pub try_push_as-requires-clause-rule : goal.try_push_as-requires-clause-rule
try_push_as-requires-clause-rule g c = sends _ _ _ _ c.loop.self.can_put
