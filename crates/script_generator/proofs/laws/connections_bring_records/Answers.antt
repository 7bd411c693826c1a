use Rattle.script_generator.proofs.Connections.{brings_records}
use Rattle.script_generator.proofs.laws.connections_bring_records.Goals as goal

pub returns : goal.returns
returns c = brings_records
