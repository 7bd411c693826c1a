use Rattle.script_generator.proofs.Whole.{is_script_text}
use Rattle.script_generator.proofs.laws.texts_are_scripts.Goals as goal

pub returns : goal.returns
returns c = is_script_text
