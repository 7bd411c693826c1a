use Rattle.std.proofs.Common.{◌≤◌, ◌-◌, refl, sym, subst, arith}
use Rattle.cdr_record.specs.ev_types.specs.declared.upcall.Upcall.TheVariants.{Timeout}
use Rattle.log_handler.specs.declared.connection.LogConnection.{LogConnection}
use Rattle.log_handler.specs.Steps.{Leads}
use Rattle.log_handler.proofs.Serving.{leads-idle}
use Rattle.log_handler.proofs.connection.LogConnection.check_idle.Goals as goal

pub returns-in-Some-clause-serves : goal.returns-in-Some-clause-serves
returns-in-Some-clause-serves g c = λ timer before goes stood.
    let long : c.in-Some.idle ≤ c.args.now - c.args.self.now.last = omega arith in
    subst (λ (n : LogConnection g.row.E.Denot g.E.PeerEnd).
    Leads g.E.PeerEnd.tells (Timeout timer) c.args.now c.args.self.now before n
    c.close_as.result) (sym c.close_as.ensures.ends)
    (leads-idle g.E.PeerEnd.tells timer c.args.now c.args.self.now _ c.close_as.result before
    c.in-Some.idle goes stood c.in-Some.is long c.close_as.ensures.turn refl refl refl refl)
