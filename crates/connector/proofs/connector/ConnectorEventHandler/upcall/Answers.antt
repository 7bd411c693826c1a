use Rattle.std.proofs.Common.{refl}
use Rattle.connector.proofs.Serving.{takes_turn}
use Rattle.connector.proofs.connector.ConnectorEventHandler.upcall.Goals as goal

pub returns-clause-turn : goal.returns-clause-turn
returns-clause-turn g c = λ t origin had open_ h.
    takes_turn g.E.PeerEnd.tells g.E.PeerEnd.keeps g.V.Service.serves t origin c.args.up c.args.now
    c.args.self.now c.turn-answer.new.self had _
    (λ service old new answer more done keeping stood.
    g.met.V.Service.finished t service old new answer more done keeping stood)
    open_ h c.turn-answer.ensures.does (c.turn-answer.ensures.kept t h.kept_end) refl
