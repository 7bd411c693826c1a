use Rattle.std.proofs.Common.{ap, ◌∙◌}
use Rattle.message_lines.proofs.Moves.{gets}
use Rattle.message_lines.proofs.line.receive.Goals as goal

pub try_pop_as-requires-clause-rule : goal.try_pop_as-requires-clause-rule
try_pop_as-requires-clause-rule g c =
    gets _ _ (ap (λ v. v.takes) c.loop.invariant.1 ∙ c.requires.takes)
