use Rattle.std.proofs.Common.{refl, ap}
use Rattle.notify_ring.specs.Words.{poster_view}
use Rattle.tp_reactor.specs.Observed.{loop_of}
use Rattle.tp_reactor.specs.Working.{ran_of}
use Rattle.tp_reactor.proofs.Rounds.{kin_same, led_kin, ready_of, quiet_free, serves_kin}
use Rattle.tp_reactor.proofs.Observed.{serves_round, idles_round}
use Rattle.tp_reactor.proofs.reactor.Reactor.round.Goals as goal

pub serve-requires-clause-ready : goal.serve-requires-clause-ready
serve-requires-clause-ready g c = ready_of _ _ c.args.most_ms c.args.led _ c.in-Job.is
    c.requires.led

pub returns-in-Job-clause-kin : goal.returns-in-Job-clause-kin
returns-in-Job-clause-kin g c = serves_kin _ c.args.most_ms c.args.until _ _ _ _ _ c.serve.result
    c.serve.ensures.serves.serves

pub returns-in-Job-clause-goes : goal.returns-in-Job-clause-goes
returns-in-Job-clause-goes g c v led =
    serves_round _ _ c.args.most_ms c.args.until c.args.led _ v _ _ c.serve.result c.in-Job.is led
    c.serve.ensures.serves

pub lead_on-requires-clause-free : goal.lead_on-requires-clause-free
lead_on-requires-clause-free g c =
    quiet_free _ _ c.args.most_ms c.args.led c.in-Quiet.is c.requires.led

pub returns-in-Quiet-clause-kin : goal.returns-in-Quiet-clause-kin
returns-in-Quiet-clause-kin g c = led_kin _ _ _ c.args.most_ms c.lead_on.result
    c.lead_on.ensures.led

pub returns-in-Quiet-clause-goes : goal.returns-in-Quiet-clause-goes
returns-in-Quiet-clause-goes g c v led =
    idles_round _ _ c.args.most_ms c.args.until c.args.led v
    (loop_of c.args.worker.now c.args.observer.now)
    (loop_of c.lead_on.new.worker c.args.observer.now) c.lead_on.result c.in-Quiet.is
    led c.lead_on.ensures.led (ap poster_view c.lead_on.ensures.poster) refl

pub returns-in-Over-clause-kin : goal.returns-in-Over-clause-kin
returns-in-Over-clause-kin g c = kin_same _

pub returns-in-Over-clause-goes : goal.returns-in-Over-clause-goes
returns-in-Over-clause-goes g c = (ap ran_of c.in-Over.is, refl)

pub returns-in-Stopped-clause-kin : goal.returns-in-Stopped-clause-kin
returns-in-Stopped-clause-kin g c = kin_same _

pub returns-in-Stopped-clause-goes : goal.returns-in-Stopped-clause-goes
returns-in-Stopped-clause-goes g c = (ap ran_of c.in-Stopped.is, refl)

pub returns-in-Broken-clause-kin : goal.returns-in-Broken-clause-kin
returns-in-Broken-clause-kin g c = kin_same _

pub returns-in-Broken-clause-goes : goal.returns-in-Broken-clause-goes
returns-in-Broken-clause-goes g c = (ap ran_of c.in-Broken.is, refl)

pub returns-in-VolumeFault-clause-kin : goal.returns-in-VolumeFault-clause-kin
returns-in-VolumeFault-clause-kin g c = kin_same _

pub returns-in-VolumeFault-clause-goes : goal.returns-in-VolumeFault-clause-goes
returns-in-VolumeFault-clause-goes g c = (ap ran_of c.in-VolumeFault.is, refl)

pub returns-in-NetFault-clause-kin : goal.returns-in-NetFault-clause-kin
returns-in-NetFault-clause-kin g c = kin_same _

pub returns-in-NetFault-clause-goes : goal.returns-in-NetFault-clause-goes
returns-in-NetFault-clause-goes g c = (ap ran_of c.in-NetFault.is, refl)

pub returns-in-NoMemory-clause-kin : goal.returns-in-NoMemory-clause-kin
returns-in-NoMemory-clause-kin g c = kin_same _

pub returns-in-NoMemory-clause-goes : goal.returns-in-NoMemory-clause-goes
returns-in-NoMemory-clause-goes g c = (ap ran_of c.in-NoMemory.is, refl)
