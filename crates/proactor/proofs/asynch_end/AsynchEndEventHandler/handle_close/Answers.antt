use Rattle.std.proofs.Common.{refl, ap, sym, subst}
use Rattle.proactor.specs.declared.note.AsynchNote.{AsynchNote}
use Rattle.proactor.specs.Ends.{AsynchGone}
use Rattle.proactor.proofs.Turning.{leaves}
use Rattle.proactor.proofs.asynch_end.AsynchEndEventHandler.handle_close.Goals as goal

pub returns : goal.returns
returns g c = record {
  gone = λ t origin had own h. subst (λ (n : AsynchNote). AsynchGone g.E.PeerEnd.tells
      g.E.PeerEnd.keeps g.C.CompletionHandler.follows t c.args.self.peer.end had c.args._why n)
      (sym c.note.ensures) (leaves g.E.PeerEnd.tells g.E.PeerEnd.keeps
      g.C.CompletionHandler.follows t c.args.self had c.args._why c.cancel_all-cancelled.new.handler
      c.cancel_all-cancelled.new.sums c.cancel_all-cancelled.result own h
      c.cancel_all-cancelled.ensures);
  serial = λ t origin had h. tt;
  kept = λ t origin had h. h.kept_end;
  end = refl;
  number = ap (λ (n : AsynchNote). n.conn) c.note.ensures;
}
