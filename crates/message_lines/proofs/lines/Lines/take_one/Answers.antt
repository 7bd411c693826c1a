use Rattle.message_lines.proofs.Moves.{gets}
use Rattle.message_lines.proofs.lines.Lines.take_one.Goals as goal

pub try_pop_as-requires-clause-rule : goal.try_pop_as-requires-clause-rule
try_pop_as-requires-clause-rule c = gets _ _ c.args.self.now.can_take
