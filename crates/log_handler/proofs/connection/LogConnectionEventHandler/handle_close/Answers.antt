use Rattle.log_handler.proofs.Serving.{leaves-gone}
use Rattle.log_handler.proofs.connection.LogConnectionEventHandler.handle_close.Goals as goal

pub returns-clause-gone : goal.returns-clause-gone
returns-clause-gone g c = λ t origin had own h.
    leaves-gone g.E.PeerEnd.tells g.E.PeerEnd.keeps t origin c.args.self had c.args.why
    c.closing-word.result h own c.closing-word.ensures
