use Rattle.script_generator.proofs.Connections.{bytes_are}
use Rattle.script_generator.proofs.laws.bytes_are_those_of_records.Goals as goal

pub returns : goal.returns
returns c = bytes_are
