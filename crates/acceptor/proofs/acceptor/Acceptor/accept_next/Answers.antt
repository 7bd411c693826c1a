use Rattle.std.proofs.Common.{refl, sym, subst}
use Rattle.ev_base.specs.ev_types.specs.declared.upcall.Upcall.TheVariants.{Input}
use Rattle.acceptor.specs.declared.acceptor.Acceptor.{Acceptor}
use Rattle.acceptor.specs.Steps.{TakesAcceptorTurn}
use Rattle.acceptor.proofs.Accepting.{turn-full, turn-one, turn-pause, turn-failed}
use Rattle.acceptor.proofs.acceptor.Acceptor.accept_next.Goals as goal

pub returns-then-self-ge-MOST-clause-turn : goal.returns-then-self-ge-MOST-clause-turn
returns-then-self-ge-MOST-clause-turn g c =
    turn-full g.E.PeerEnd.tells g.E.PeerEnd.keeps c.args.now c.args.self.now c.kept.result
    c.if-self-ge-MOST.true c.kept.ensures.answers c.kept.ensures.notes c.kept.ensures.act

pub returns-in-One-clause-turn : goal.returns-in-One-clause-turn
returns-in-One-clause-turn g c =
    subst (λ (n : Acceptor g.row.E.Denot g.E.PeerEnd).
    TakesAcceptorTurn g.E.PeerEnd.tells g.E.PeerEnd.keeps Input c.args.now c.args.self.now n
    c.install.result) (sym c.install.ensures.counts)
    (turn-one g.E.PeerEnd.tells g.E.PeerEnd.keeps c.args.now c.args.self.now _ c.in-One.end
    c.install.result c.if-self-ge-MOST.false c.in-One.ensures.accepts c.in-One.ensures.kept
    c.in-One.ensures.given
    g.met.E.PeerEnd.keeps_story refl refl c.install.ensures.offers)

pub returns-in-Pause-clause-turn : goal.returns-in-Pause-clause-turn
returns-in-Pause-clause-turn g c =
    turn-pause g.E.PeerEnd.tells g.E.PeerEnd.keeps c.args.now c.args.self.now _
    c.kept-in-Pause.result c.if-self-ge-MOST.false c.in-Pause.ensures.accepts
    c.in-Pause.ensures.kept refl refl
    c.kept-in-Pause.ensures.answers c.kept-in-Pause.ensures.notes c.kept-in-Pause.ensures.act

pub returns-in-Failed-clause-turn : goal.returns-in-Failed-clause-turn
returns-in-Failed-clause-turn g c =
    turn-failed g.E.PeerEnd.tells g.E.PeerEnd.keeps c.args.now c.args.self.now _
    c.kept-in-Failed.result c.if-self-ge-MOST.false c.in-Failed.ensures.accepts
    c.in-Failed.ensures.kept refl refl
    c.kept-in-Failed.ensures.answers c.kept-in-Failed.ensures.notes c.kept-in-Failed.ensures.act
