use Rattle.reactor_desk.proofs.Begun.{desk_begins}
use Rattle.reactor_desk.proofs.desk.Desk.new.Goals as goal

pub returns-clause-stands : goal.returns-clause-stands
returns-clause-stands g c t F h o can filled =
    desk_begins _ t F h c.args.core c.args.drainer o can filled
