use Rattle.journal_picture.proofs.Lanes.{stands_in_lane}
use Rattle.journal_picture.proofs.laws.each_stands_in_its_lane.Goals as goal

pub returns : goal.returns
returns c = stands_in_lane
