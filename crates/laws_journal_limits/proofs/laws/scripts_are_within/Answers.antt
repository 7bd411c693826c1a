use Rattle.laws_journal_limits.proofs.Scripts.{text_within}
use Rattle.laws_journal_limits.proofs.laws.scripts_are_within.Goals as goal

pub returns : goal.returns
returns c text groups is short = text_within text groups is short
