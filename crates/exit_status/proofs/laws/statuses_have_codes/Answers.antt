use Rattle.exit_status.proofs.Codes.{statuses_have_codes}
use Rattle.exit_status.proofs.laws.statuses_have_codes.Goals as goal

pub returns : goal.returns
returns c = statuses_have_codes
