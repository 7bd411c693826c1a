use Rattle.proactor.proofs.Turning.{fits_new}
use Rattle.proactor.proofs.asynch_end.AsynchEnd.new.Goals as goal

pub returns-clause-fits : goal.returns-clause-fits
returns-clause-fits g c = λ t keeping. fits_new g.E.PeerEnd.tells g.E.PeerEnd.keeps
    g.C.CompletionHandler.follows t _ c.args.first c.requires.operation c.requires.fresh
    c.of.ensures c.none.ensures c.requires.follows keeping
