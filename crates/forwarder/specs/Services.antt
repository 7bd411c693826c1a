-- Where the service stands, in the code's own store of it.
use Rattle.std.specs.Prelude.{ℕ}
use Rattle.ev_base.specs.End.{EndFacts}
use Rattle.ev_base.specs.Source.{SourceFacts}
use Rattle.ev_base.specs.declared.end.PeerEnd.{Ghosts}
use Rattle.forwarder.specs.ForwardEnds.{forward_facts}
use Rattle.forwarder.specs.Forwarding.{State}
use Rattle.forwarder.specs.declared.forward_end.ForwardEnd.{ForwardEnd}
use Rattle.forwarder.specs.declared.forwarder.Forwarder.{Forwarder}

-- where it stands, with what its end tells
abbrev pub standing : {E S : Type 0} → Forwarder E S → EndFacts → State
standing service facts = record {
  facts = facts;
  decoder = service.reading;
  waiting = service.sending.waiting;
  stop = service.stop;
  records = service.records;
  bytes = service.bytes;
  ended = service.ended;
}

abbrev pub state_of : {E S : Type 0} {G : Ghosts E} → (E → EndFacts) → (S → SourceFacts)
    → Forwarder E S → ForwardEnd E S G → State
state_of tells source service end = standing service (forward_facts tells source end)

-- how many bytes its queue holds
abbrev pub held_of : {E S : Type 0} → Forwarder E S → ℕ
held_of service = service.sending.held
