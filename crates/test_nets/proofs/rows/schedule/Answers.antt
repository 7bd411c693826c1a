use Rattle.test_nets.proofs.Idling.{schedules}
use Rattle.test_nets.proofs.rows.schedule.Goals as goal

pub returns : goal.returns
returns g c =
    schedules c.args.core.now c.schedule.new.self c.args.handle c.args.delay c.args.every
    c.schedule.result c.schedule.ensures.ok c.schedule.ensures.err c.requires.idle
