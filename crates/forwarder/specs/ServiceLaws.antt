-- That what the service stands for is changed by no question to its end, and by no attach of it.
use Rattle.std.specs.Prelude.{◌≡◌, List}
use Rattle.ev_base.specs.Source.{SourceFacts}
use Rattle.ev_base.specs.Terms.{Terms}
use Rattle.ev_base.specs.End.{EndFacts, EndFinishes}
use Rattle.ev_base.specs.declared.dial.Finish.{Finish}
use Rattle.ev_base.specs.declared.end.PeerEnd.{Ghosts}
use Rattle.reactor_model.specs.reactor_journal.specs.Event.{Item}
use Rattle.forwarder.specs.ForwardEnds.{forward_facts, ForwardKeeps}
use Rattle.forwarder.specs.Forwarded.{HasServed, HasTurned}
use Rattle.forwarder.specs.Services.{standing}
use Rattle.forwarder.specs.declared.forward_end.ForwardEnd.{ForwardEnd}
use Rattle.forwarder.specs.declared.forwarder.Forwarder.{Forwarder}
use Rattle.forwarder.specs.declared.note.ForwardNote.{ForwardNote}
use Rattle.forwarder.specs.Asking.{turned_when_asked}
use Rattle.std.proofs.Common.{sym, subst}

pub stays_when_asked : {E S : Type 0} {G : Ghosts E} (tells : E → EndFacts)
    (keeps : Terms → E → Type 0) (source : S → SourceFacts) (t : Terms) (service : Forwarder E S)
    (old new : ForwardEnd E S G) (answer : Finish) (had : List (Item ForwardNote))
    → EndFinishes (forward_facts tells source old) answer (forward_facts tells source new)
    → ForwardKeeps tells keeps source t new → HasServed tells source service old had
    → HasServed tells source service new had
stays_when_asked tells keeps source t service old new answer had asked kept served = record {
  turned = turned_when_asked (standing service (forward_facts tells source old))
      (forward_facts tells source new) answer had asked served.turned;
  few = served.few;
}

pub stays_when_attached : {E S : Type 0} {G : Ghosts E} (tells : E → EndFacts)
    (keeps : Terms → E → Type 0) (source : S → SourceFacts) (t : Terms) (service : Forwarder E S)
    (old new : ForwardEnd E S G) (had : List (Item ForwardNote))
    → forward_facts tells source new ≡ forward_facts tells source old
    → ForwardKeeps tells keeps source t new → HasServed tells source service old had
    → HasServed tells source service new had
stays_when_attached tells keeps source t service old new had told kept served = record {
  turned = subst (λ (facts : EndFacts). HasTurned had (standing service facts)) (sym told)
      served.turned;
  few = served.few;
}
