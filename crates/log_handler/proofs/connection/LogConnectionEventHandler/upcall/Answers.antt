use Rattle.std.proofs.Common.{refl, subst, sym}
use Rattle.cdr_record.specs.ev_types.specs.declared.upcall.Upcall.{Upcall}
use Rattle.log_handler.specs.Steps.{Serves}
use Rattle.log_handler.proofs.Serving.{takes-turn, serves-other}
use Rattle.log_handler.proofs.connection.LogConnectionEventHandler.upcall.Goals as goal

pub returns-in-Input-clause-turn : goal.returns-in-Input-clause-turn
returns-in-Input-clause-turn g c = λ t origin had going h.
    takes-turn g.E.PeerEnd.tells g.E.PeerEnd.keeps t origin c.args.up c.args.now had c.args.self.now
    c.read_piece.new.self c.read_piece.result going h c.read_piece.ensures.same
    (subst (λ (u : Upcall). Serves g.E.PeerEnd.tells u c.args.now c.args.self.now
    c.read_piece.new.self c.read_piece.result) (sym c.in-Input.is) c.read_piece.ensures.serves)
    c.read_piece.ensures.quiet

pub returns-in-Timeout-clause-turn : goal.returns-in-Timeout-clause-turn
returns-in-Timeout-clause-turn g c = λ t origin had going h.
    takes-turn g.E.PeerEnd.tells g.E.PeerEnd.keeps t origin c.args.up c.args.now had c.args.self.now
    c.check_idle.new.self c.check_idle.result going h c.check_idle.ensures.same
    (subst (λ (u : Upcall). Serves g.E.PeerEnd.tells u c.args.now c.args.self.now
    c.check_idle.new.self c.check_idle.result) (sym c.in-Timeout.is)
    (c.check_idle.ensures.serves c.in-Timeout.timer))
    c.check_idle.ensures.quiet

pub returns-in_default-clause-turn : goal.returns-in_default-clause-turn
returns-in_default-clause-turn g c = λ t origin had going h.
    takes-turn g.E.PeerEnd.tells g.E.PeerEnd.keeps t origin c.args.up c.args.now had c.args.self.now
    c.args.self.now c.keep.result going h
    (record { conn = refl; idle = refl; serial = refl; kept = λ _ k. k })
    (serves-other g.E.PeerEnd.tells c.args.up c.args.now c.args.self.now c.keep.result
    c.in_default.not-Input c.in_default.not-Timeout c.keep.ensures) c.keep.ensures.no_act
