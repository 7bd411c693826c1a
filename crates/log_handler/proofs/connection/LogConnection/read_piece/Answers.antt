use Rattle.std.proofs.Common.{◌≡◌, ◌∙◌, length, refl, sym, ap, subst, Some}
use Rattle.cdr_record.specs.ev_types.specs.declared.upcall.Upcall.TheVariants.{Input}
use Rattle.ev_base.specs.End.{EndGives}
use Rattle.log_handler.specs.declared.connection.LogConnection.{LogConnection}
use Rattle.log_handler.specs.Connection.{piece_room}
use Rattle.log_handler.specs.Steps.{Leads}
use Rattle.log_handler.proofs.Serving.{leads-piece, leads-pause, leads-over, leads-failed}
use Rattle.log_handler.proofs.connection.LogConnection.read_piece.Goals as goal

pub returns-in-Bytes-clause-serves : goal.returns-in-Bytes-clause-serves
returns-in-Bytes-clause-serves g c = λ before goes stood.
    let whole : length c.read.new.buf ≡ piece_room = c.read.auto.buf in
    leads-piece g.E.PeerEnd.tells c.args.now c.args.self.now c.take_piece.new.self
    c.take_piece.result c.read.new.buf c.in-Bytes.count before goes stood whole
    (subst (λ (e : g.row.E.Denot). EndGives (g.E.PeerEnd.tells c.args.self.now.peer.end)
    c.read.new.buf c.in-Bytes.count (g.E.PeerEnd.tells e)) (sym c.take_piece.ensures.end)
    c.in-Bytes.ensures.reads)
    c.take_piece.ensures.last (c.take_piece.ensures.told before goes (stood.kept ∙ goes)
    stood.decoder)

pub returns-in-Pause-clause-serves : goal.returns-in-Pause-clause-serves
returns-in-Pause-clause-serves g c = λ before goes stood.
    let whole : length c.read.new.buf ≡ piece_room = c.read.auto.buf in
    leads-pause g.E.PeerEnd.tells c.args.now c.args.self.now _ c.keep.result c.read.new.buf before
    goes stood whole refl refl c.in-Pause.ensures.reads refl c.keep.ensures

pub returns-in-Over-clause-serves : goal.returns-in-Over-clause-serves
returns-in-Over-clause-serves g c = λ before goes stood.
    let whole : length c.read.new.buf ≡ piece_room = c.read.auto.buf in
    let stands = stood.decoder goes in
    subst (λ (n : LogConnection g.row.E.Denot g.E.PeerEnd).
    Leads g.E.PeerEnd.tells Input c.args.now c.args.self.now before n c.close_as.result)
    (sym c.close_as.ensures.ends)
    (leads-over g.E.PeerEnd.tells c.args.now c.args.self.now _ c.close_as.result c.read.new.buf
    before goes stood whole refl refl c.in-Over.ensures.reads
    (ap Some (c.end_of_input-end.ensures before.taken stands.0 stands.1)) c.close_as.ensures.turn)

pub returns-in-Failed-clause-serves : goal.returns-in-Failed-clause-serves
returns-in-Failed-clause-serves g c = λ before goes stood.
    let whole : length c.read.new.buf ≡ piece_room = c.read.auto.buf in
    subst (λ (n : LogConnection g.row.E.Denot g.E.PeerEnd).
    Leads g.E.PeerEnd.tells Input c.args.now c.args.self.now before n
    c.close_as-in-Failed.result) (sym c.close_as-in-Failed.ensures.ends)
    (leads-failed g.E.PeerEnd.tells c.args.now c.args.self.now _ c.close_as-in-Failed.result
    c.read.new.buf before goes stood whole refl refl c.in-Failed.ensures.reads refl
    c.close_as-in-Failed.ensures.turn)
