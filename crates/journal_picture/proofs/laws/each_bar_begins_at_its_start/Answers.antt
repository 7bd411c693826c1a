use Rattle.journal_picture.proofs.Bars.{begins_at_its_start}
use Rattle.journal_picture.proofs.laws.each_bar_begins_at_its_start.Goals as goal

pub returns : goal.returns
returns c = begins_at_its_start
