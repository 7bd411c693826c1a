use Rattle.laws_script_serial.proofs.One.{same_journal}
use Rattle.laws_script_serial.proofs.laws.serial_is_one.Goals as goal

pub returns : goal.returns
returns c most idle groups journal other s r memory memory' =
    same_journal most idle groups journal other s r memory memory'
