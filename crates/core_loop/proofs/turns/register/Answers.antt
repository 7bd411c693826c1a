use Rattle.std.proofs.Common.{None}
use Rattle.core_loop.proofs.Idling.{registers}
use Rattle.core_loop.proofs.turns.register.Goals as goal

pub register-requires : goal.register-requires
register-requires g c =
    let i = c.requires.0 in
    record { stands = (i.terms, i.first, i.history, i.stands, c.requires.1); timer = tt }

pub returns-clause-idle : goal.returns-clause-idle
returns-clause-idle g c =
    let i = c.requires.0 in
    registers c.args.core.now c.register.new.self c.register.result c.args.mask None i
    (c.register.ensures.stands i.terms i.first i.history i.stands c.requires.1)
