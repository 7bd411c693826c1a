use Rattle.std.proofs.Common.{◌+◌, ◌-◌, ◌/◌, arith, refl}
use Rattle.reactor_journal.proofs.Picking.{next_above, next_least}
use Rattle.reactor_journal.proofs.laws.next_is_least.Goals as goal

pub returns-clause-above : goal.returns-clause-above
returns-clause-above c d every moment h = next_above d every moment h

pub returns-clause-of_the_row : goal.returns-clause-of_the_row
returns-clause-of_the_row c d every moment = ((moment - d) / every + 1, omega arith, refl)

pub returns-clause-least : goal.returns-clause-least
returns-clause-least c d every moment k h one lt = next_least d every moment k h one lt
