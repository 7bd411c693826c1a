use Rattle.std.proofs.Common.{sym, subst}
use Rattle.ev_base.specs.ev_types.specs.declared.upcall.Upcall.{Upcall}
use Rattle.acceptor.specs.Steps.{TakesAcceptorTurn}
use Rattle.acceptor.proofs.Accepting.{turn-notice, turn-other}
use Rattle.acceptor.proofs.acceptor.Acceptor.serve.Goals as goal

pub returns-in-Notice-clause-turn : goal.returns-in-Notice-clause-turn
returns-in-Notice-clause-turn g c =
    subst (λ (up : Upcall). TakesAcceptorTurn g.E.PeerEnd.tells g.E.PeerEnd.keeps up c.args.now
    c.args.self.now c.args.self.now c.kept.result) (sym c.in-Notice.is)
    (turn-notice g.E.PeerEnd.tells g.E.PeerEnd.keeps c.in-Notice.kind c.args.now c.args.self.now
    c.kept.result c.kept.ensures.answers c.kept.ensures.notes c.kept.ensures.act)

pub returns-in_default-clause-turn : goal.returns-in_default-clause-turn
returns-in_default-clause-turn g c =
    turn-other g.E.PeerEnd.tells g.E.PeerEnd.keeps c.args.up c.args.now c.args.self.now
    c.kept-in_default.result c.in_default.not-Input c.kept-in_default.ensures.answers
    c.kept-in_default.ensures.notes c.kept-in_default.ensures.act

pub returns-in_default-clause-notes : goal.returns-in_default-clause-notes
returns-in_default-clause-notes g c = λ is. absurd (c.in_default.not-Input is)
