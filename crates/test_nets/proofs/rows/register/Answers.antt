use Rattle.std.proofs.Common.{None}
use Rattle.core_loop.proofs.Idling.{registers}
use Rattle.test_nets.proofs.rows.register.Goals as goal

pub returns : goal.returns
returns g c =
    registers _ _ c.register.result _ None c.requires
    (c.register.ensures.stands c.requires.terms c.requires.first c.requires.history
    c.requires.stands tt)
