use Rattle.cmd_forward.proofs.Sound.{sound}
use Rattle.cmd_forward.proofs.laws.sound_runs_are_done.Goals as goal

pub returns : goal.returns
returns g c tells facts source sink words before now input output left answered is =
    sound tells facts source sink words before now input output left is answered.outcome
    answered.code answered.means
