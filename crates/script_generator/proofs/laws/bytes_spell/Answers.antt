use Rattle.script_generator.proofs.Spelled.{bytes_spell}
use Rattle.script_generator.proofs.laws.bytes_spell.Goals as goal

pub returns : goal.returns
returns c = bytes_spell
