use Rattle.reactor_state.proofs.Owners.{armed_more}
use Rattle.reactor_state.proofs.armed.Armed.arm.Goals as goal

pub returns-clause-armed : goal.returns-clause-armed
returns-clause-armed g c armed has =
    armed_more g.Q.TimerQueue.timers c.args.self.now
    (record { timers = c.schedule.new.self; owners = c.put.new.owners }) armed c.args.t has
    c.requires.fresh c.schedule.ensures.timers c.put.ensures.rising c.put.ensures.counts
