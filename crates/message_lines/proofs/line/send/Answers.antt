use Rattle.std.proofs.Common.{ap, ◌∙◌}
use Rattle.message_lines.proofs.Moves.{sends}
use Rattle.message_lines.proofs.line.send.Goals as goal

pub try_push_as-requires-clause-rule : goal.try_push_as-requires-clause-rule
try_push_as-requires-clause-rule g c =
    sends _ _ _ _ (ap (λ v. v.puts) c.loop.invariant.1 ∙ c.requires.puts)
