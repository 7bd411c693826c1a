use Rattle.journal_check.proofs.Picked.{next_new}
use Rattle.journal_check.proofs.machine.Machine.change.Goals as goal

pub returns-in_default : goal.returns-in_default
returns-in_default g c sound next =
    c.apply.ensures (next_new c.args.self.now c.args.entry.now sound next)
