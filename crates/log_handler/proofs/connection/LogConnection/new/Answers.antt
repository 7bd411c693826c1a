use Rattle.std.proofs.Common.{refl, ap}
use Rattle.log_handler.proofs.Serving.{fits-new}
use Rattle.log_handler.proofs.connection.LogConnection.new.Goals as goal

pub returns-clause-fits : goal.returns-clause-fits
returns-clause-fits g c = λ t origin keeping comes.
    fits-new g.E.PeerEnd.tells g.E.PeerEnd.keeps t origin _ g.met.E.PeerEnd.keeps_story
    c.requires.no_listener c.requires.fresh c.new.ensures.stands
    (ap (λ d. d.bad) c.new.ensures.fresh) refl keeping comes
