use Rattle.proactor.proofs.Cancelling.{cancelled_one}
use Rattle.proactor.proofs.closing.cancel.Goals as goal

pub returns : goal.returns
returns g c = cancelled_one g.C.CompletionHandler.follows c.args.id c.args.handler.now
    c.completed-dropped.new.self c.completed-dropped.result c.completed-dropped.ensures.follows
