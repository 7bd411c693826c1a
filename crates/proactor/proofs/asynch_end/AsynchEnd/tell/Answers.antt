use Rattle.proactor.proofs.Parting.{hears}
use Rattle.proactor.proofs.asynch_end.AsynchEnd.tell.Goals as goal

pub returns-in-Ok : goal.returns-in-Ok
returns-in-Ok g c = hears g.E.PeerEnd.tells g.E.PeerEnd.keeps g.C.CompletionHandler.follows
    c.args.id
    c.args.outcome c.args.self.now c.count_completed.new.self c.count_completed.result
    c.in-Ok.field-0
    c.take_up-all.result c.completed.new.self c.take_up-all.new.self c.is_failed-failed.result
    c.is_starved-starved.result c.is_failed-failed.ensures c.is_starved-starved.ensures
    c.in-Ok.ensures.follows c.take_up-all.ensures c.count_completed.ensures.step
    c.count_completed.ensures.sums
