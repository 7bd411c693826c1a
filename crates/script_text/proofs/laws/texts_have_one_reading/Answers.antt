use Rattle.script_text.proofs.Readings.{same_groups, no_bad_line, same_bad_line}
use Rattle.script_text.proofs.laws.texts_have_one_reading.Goals as goal

pub returns : goal.returns
returns c = record { groups = same_groups; good = no_bad_line; bad = same_bad_line }
