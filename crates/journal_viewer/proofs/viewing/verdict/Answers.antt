use Rattle.std.proofs.Common.{◌∙◌, ap, Err}
use Rattle.journal_viewer.proofs.viewing.verdict.Goals as goal

pub returns-in-Err-Illegal : goal.returns-in-Err-Illegal
returns-in-Err-Illegal c = c.check.ensures.illegal c.in-Err-Illegal.at
    (c.in-Err-Illegal.is ∙ ap Err c.in-Err-Illegal.field-0-is)
