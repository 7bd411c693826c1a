use Rattle.journal_picture.proofs.Handles.{has_its_lane}
use Rattle.journal_picture.proofs.laws.each_handle_has_its_lane.Goals as goal

pub returns : goal.returns
returns c = has_its_lane
