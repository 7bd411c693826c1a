use Rattle.laws_script_served.proofs.Scripts.{have-script, lays-down, text-steps}
use Rattle.laws_script_served.proofs.laws.scripts_are_laid_down.Goals as goal

pub returns : goal.returns
returns c = record { down = lays-down; have = have-script; steps = text-steps }
