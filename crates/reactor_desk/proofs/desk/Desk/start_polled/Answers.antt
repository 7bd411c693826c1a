use Rattle.std.proofs.Common.{subst, sym, refl}
use Rattle.reactor_desk.specs.Leading.{IsNotOver}
use Rattle.reactor_desk.proofs.Dispatched.{behind_job, behind_over, behind_quiet, desk_same}
use Rattle.reactor_desk.proofs.desk.Desk.start_polled.Goals as goal

pub returns-in-Ok-Some-clause-gives : goal.returns-in-Ok-Some-clause-gives
returns-in-Ok-Some-clause-gives g c q F h o =
    behind_job _ q F h c.args.self.now _ c.start.ensures.rest.volume c.args.polled _ _
    c.in-Ok-Some.field-0-is o
    (c.in-Ok-Some.ensures.ok q.run F h o.stands.core)

pub returns-in-Over-clause-gives : goal.returns-in-Over-clause-gives
returns-in-Over-clause-gives g c q F h o =
    behind_over _ q F h c.args.self.now _ c.start.ensures.rest.volume c.args.polled _ c.in-Over.is
    c.in-Ok-None.field-0-is o
    (c.in-Ok-None.ensures.ok q.run F h o.stands.core)

pub returns-in-Events-clause-gives : goal.returns-in-Events-clause-gives
returns-in-Events-clause-gives g c q F h o =
    behind_quiet _ q F h c.args.self.now _ c.start.ensures.rest.volume c.args.polled _
    (subst IsNotOver (sym c.in-Events.is) tt)
    c.in-Ok-None.field-0-is o (c.in-Ok-None.ensures.ok q.run F h o.stands.core)

pub returns-in-Quiet-clause-gives : goal.returns-in-Quiet-clause-gives
returns-in-Quiet-clause-gives g c q F h o =
    behind_quiet _ q F h c.args.self.now _ c.start.ensures.rest.volume c.args.polled _
    (subst IsNotOver (sym c.in-Quiet.is) tt)
    c.in-Ok-None.field-0-is o (c.in-Ok-None.ensures.ok q.run F h o.stands.core)

pub returns-in-Ok-Some-clause-rest : goal.returns-in-Ok-Some-clause-rest
returns-in-Ok-Some-clause-rest g c =
    record { net = c.start.ensures.net; rest = c.start.ensures.rest }

pub returns-in-Over-clause-rest : goal.returns-in-Over-clause-rest
returns-in-Over-clause-rest g c = record { net = c.start.ensures.net; rest = c.start.ensures.rest }

pub returns-in-Events-clause-rest : goal.returns-in-Events-clause-rest
returns-in-Events-clause-rest g c =
    record { net = c.start.ensures.net; rest = c.start.ensures.rest }

pub returns-in-Quiet-clause-rest : goal.returns-in-Quiet-clause-rest
returns-in-Quiet-clause-rest g c = record { net = c.start.ensures.net; rest = c.start.ensures.rest }

pub returns-in-Err-clause-rest : goal.returns-in-Err-clause-rest
returns-in-Err-clause-rest g c = record { net = c.start.ensures.net; rest = c.start.ensures.rest }

pub start-requires : goal.start-requires
start-requires g c = let o = c.requires.starts in
    record { stands = (o.0.run, o.1, o.2, o.3.stands.core) }

pub returns-in-Ok-Some-clause-drainer : goal.returns-in-Ok-Some-clause-drainer
returns-in-Ok-Some-clause-drainer g c = refl

pub returns-in-Over-clause-drainer : goal.returns-in-Over-clause-drainer
returns-in-Over-clause-drainer g c = refl

pub returns-in-Events-clause-drainer : goal.returns-in-Events-clause-drainer
returns-in-Events-clause-drainer g c = refl

pub returns-in-Quiet-clause-drainer : goal.returns-in-Quiet-clause-drainer
returns-in-Quiet-clause-drainer g c = refl

pub returns-in-Err-clause-drainer : goal.returns-in-Err-clause-drainer
returns-in-Err-clause-drainer g c = refl

pub returns-in-Err-clause-gives : goal.returns-in-Err-clause-gives
returns-in-Err-clause-gives g c q F h o =
    desk_same _ q F h c.args.self.now _ c.start.ensures.rest.volume o.stands
    (c.in-Err.ensures.err q.run F h o.stands.core)
