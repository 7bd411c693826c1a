use Rattle.std.proofs.Common.{Some}
use Rattle.core_loop.proofs.Idling.{registers}
use Rattle.test_nets.proofs.rows.register_timed.Goals as goal

pub returns : goal.returns
returns g c =
    let i = c.requires.idle in
    registers _ _ c.register.result _ (Some c.args.timer) i
    (c.register.ensures.stands i.terms i.first i.history i.stands tt)
