use Rattle.laws_journal_length.proofs.Short.{short}
use Rattle.laws_journal_length.proofs.laws.journal_is_short.Goals as goal

pub returns : goal.returns
returns g c q answer groups journal r = short _ q answer groups journal r
