use Rattle.laws_journal_limits.proofs.Records.{records_within}
use Rattle.laws_journal_limits.proofs.laws.records_are_within.Goals as goal

pub returns : goal.returns
returns c t bytes = records_within t bytes
