use Rattle.std.proofs.Common.{refl}
use Rattle.script_generator.specs.Scripts.{last_round}
use Rattle.script_generator.proofs.generator.rounds.Goals as goal

pub returns-clause-rounds : goal.returns-clause-rounds
unfolding last_round
returns-clause-rounds c = refl
