-- Turns of the server's handlers.
use Rattle.std.proofs.Common.{◌≡◌, List, [], ◌∷◌, ◌++◌, ℕ, Option, None, sym, subst}
use Rattle.ev_base.specs.ev_types.specs.declared.upcall.Answer.{Answer}
use Rattle.ev_base.specs.ev_types.specs.declared.upcall.Upcall.{Upcall}
use Rattle.ev_base.specs.Terms.{Terms}
use Rattle.ev_base.specs.End.{EndFacts}
use Rattle.ev_base.specs.declared.end.PeerEnd.{Ghosts}
use Rattle.reactor_model.specs.reactor_journal.specs.Event.{Item, Origin}
use Rattle.reactor_model.specs.Turns.{TakesTurn, MayAct}
use Rattle.reactor_model.specs.declared.handler.Turn.{Turn}
use Rattle.reactor_model.specs.declared.handler.Act.{Act}
use Rattle.log_handler.specs.declared.note.ServerNote.{ServerNote}
use Rattle.log_handler.specs.declared.connection.LogConnection.{LogConnection}
use Rattle.log_handler.specs.Connections.{ConnectionFits, connections}
use Rattle.acceptor.specs.declared.acceptor.Acceptor.{Acceptor}
use Rattle.acceptor.specs.declared.server.ServerHandler.{ServerHandler}
use Rattle.acceptor.specs.declared.server.ServerHandler.TheVariants.{Listen, Talk}
use Rattle.acceptor.specs.Acceptors.{AcceptorFits}
use Rattle.acceptor.specs.Servers.{servers}
use Rattle.acceptor.specs.Steps.{TakesAcceptorTurn}

abbrev item-of : Upcall → ℕ → Answer → ServerNote → Item ServerNote
item-of up now answer said = record { upcall = up; moment = now; answer = answer; note = said }

module _ {E : Type 0} {G : Ghosts E} (tells : E → EndFacts) (keeps : Terms → E → Type 0) (t : Terms)
    (origin : Option (Origin ServerNote)) (up : Upcall) (now : ℕ)
    (had : List (Item ServerNote)) where
  -- a turn of an acceptor
  pub takes-acceptor : (old new : Acceptor E G) (turn : Turn (ServerHandler E G) ServerNote E)
      → TakesAcceptorTurn tells keeps up now old new turn →
      AcceptorFits tells keeps t origin old had
      → TakesTurn (servers tells keeps) t origin up now had (Listen new) turn
  takes-acceptor old new turn m h = record {
    fits = m.fits t origin had h;
    act = m.act t origin had h;
  }

  -- a turn of a connection
  pub takes-connection : (new : LogConnection E G) (turn : Turn (LogConnection E G) ServerNote E)
      (out : Turn (ServerHandler E G) ServerNote E) →
      TakesTurn (connections tells keeps) t origin up now had new turn → out.answer ≡ turn.answer
      → out.note ≡ turn.note → out.act ≡ None →
      TakesTurn (servers tells keeps) t origin up now had (Talk new) out
  takes-connection new turn out m answers said none = record {
    fits = subst (λ (a : Answer). ConnectionFits tells keeps t origin new
        (had ++ item-of up now a out.note ∷ [])) (sym answers)
        (subst (λ (n : ServerNote). ConnectionFits tells keeps t origin new
        (had ++ item-of up now turn.answer n ∷ [])) (sym said) m.fits);
    act = subst (λ (a : Option (Act (ServerHandler E G) ServerNote E)).
        MayAct (servers {E = E} {G = G} tells keeps) t up (record { note = out.note; moment = now })
        a) (sym none) tt;
  }
