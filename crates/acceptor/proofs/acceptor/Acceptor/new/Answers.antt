use Rattle.std.proofs.Common.{refl}
use Rattle.acceptor.proofs.Accepting.{fits-new}
use Rattle.acceptor.proofs.acceptor.Acceptor.new.Goals as goal

pub returns-clause-fits : goal.returns-clause-fits
returns-clause-fits g c = λ t origin keeping comes waits numbered.
    fits-new g.E.PeerEnd.tells g.E.PeerEnd.keeps t origin _ g.met.E.PeerEnd.keeps_story
    c.requires.listener c.requires.fresh refl keeping comes waits numbered
