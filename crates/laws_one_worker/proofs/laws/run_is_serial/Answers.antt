use Rattle.laws_one_worker.proofs.Whole.{serial}
use Rattle.laws_one_worker.proofs.laws.run_is_serial.Goals as goal

pub returns : goal.returns
returns g c q idle groups journal r = serial _ q idle groups journal r
