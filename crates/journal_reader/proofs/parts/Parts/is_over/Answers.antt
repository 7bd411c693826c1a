use Rattle.journal_reader.proofs.PartsLeft.{none_left}
use Rattle.journal_reader.proofs.parts.Parts.is_over.Goals as goal

pub returns : goal.returns
returns c = none_left c.args.self.now.separator c.args.self.now.rest c.is_none.result
    c.is_none.ensures
