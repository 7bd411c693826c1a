use Rattle.std.proofs.Common.{◌∙◌, length, refl, sym, ap}
use Rattle.proactor.specs.Turns.{tries_read}
use Rattle.proactor.proofs.Parting.{idle, no_read, read_bytes, read_paused}
use Rattle.proactor.proofs.Rooms.{cut_room}
use Rattle.proactor.proofs.asynch_end.AsynchEnd.try_read.Goals as goal

pub returns-in_default : goal.returns-in_default
returns-in_default g c = idle g.E.PeerEnd.tells g.E.PeerEnd.keeps g.C.CompletionHandler.follows
    tries_read c.args.self.now c.args.self.now refl refl refl (λ t kept. kept)
    (no_read _ c.in_default.ensures)

pub returns-in-Bytes : goal.returns-in-Bytes
returns-in-Bytes g c =
    let same = c.read.auto.buf ∙ ap length c.deref_mut.ensures.value in
    read_bytes g.E.PeerEnd.tells g.E.PeerEnd.keeps g.C.CompletionHandler.follows c.in-Bytes.count
    c.read.new.buf c.new.result c.in-Some.want c.args.self.now _ c.complete_read-step.new.self
    c.complete_read-step.result (c.new.ensures ∙ c.truncate.ensures.items
    ∙ cut_room c.in-Bytes.count _ c.read.new.buf c.in-Some-room_for.room.items same
    (sym (ap length c.deref_mut.ensures.value) ∙ c.deref_mut.ensures.len)) c.in-Some.ensures
    (same ∙ c.in-Some-room_for.ensures) c.in-Bytes.ensures.reads refl c.take.ensures refl refl
    c.in-Bytes.ensures.kept c.complete_read-step.ensures

pub returns-in-Pause : goal.returns-in-Pause
returns-in-Pause g c =
    let same = c.read.auto.buf ∙ ap length c.deref_mut.ensures.value in
    read_paused g.E.PeerEnd.tells g.E.PeerEnd.keeps g.C.CompletionHandler.follows c.read.new.buf
    c.in-Some.want c.args.self.now _ c.in-Some.ensures (same ∙ c.in-Some-room_for.ensures)
    c.in-Pause.ensures.reads refl refl refl refl c.in-Pause.ensures.kept
