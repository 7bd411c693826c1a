use Rattle.script_generator.specs.Scripts.{round_lines}
use Rattle.script_generator.proofs.Growing.{grows_by_round}
use Rattle.script_generator.proofs.generator.push_rounds.Goals as goal

pub loop-round-preserved : goal.loop-round-preserved
loop-round-preserved c = grows_by_round (round_lines c.args.n c.args.seed) c.loop-round.round _ _ _
    c.loop-round.invariant c.in_ok-push_round.ensures
