use Rattle.std.proofs.Common.{is_some, sym, ap, ◌∙◌}
use Rattle.journal_check.proofs.Opened.{find_is_any}
use Rattle.journal_check.proofs.opens.Opens.is_open.Goals as goal

pub returns-in-None : goal.returns-in-None
returns-in-None c = ap is_some (sym c.in-None.is ∙ c.find.ensures)
    ∙ find_is_any c.args.event c.args.self.now

pub returns-in-Some : goal.returns-in-Some
returns-in-Some c = ap is_some (sym c.in-Some.is ∙ c.find.ensures)
    ∙ find_is_any c.args.event c.args.self.now
