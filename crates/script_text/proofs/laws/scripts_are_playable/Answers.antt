use Rattle.script_text.proofs.Playable.{are_playable}
use Rattle.script_text.proofs.laws.scripts_are_playable.Goals as goal

pub returns : goal.returns
returns c = are_playable
