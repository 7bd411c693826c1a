use Rattle.journal_check.proofs.Picked.{alone_from}
use Rattle.journal_check.proofs.machine.Machine.fits.Goals as goal

pub returns-in_default : goal.returns-in_default
returns-in_default g c pick waits =
    c.fits_alone.ensures (alone_from c.args.entry.now c.in_default.not-Started
    c.in_default.not-Polled c.in_default.not-Ended)
