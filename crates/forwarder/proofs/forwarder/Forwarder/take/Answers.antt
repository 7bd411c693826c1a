use Rattle.std.proofs.Common.{inr, Some, ap}
use Rattle.forwarder.specs.Forwarding.{State}
use Rattle.forwarder.specs.declared.note.ForwardEnding.TheVariants as end
use Rattle.forwarder.proofs.forwarder.Forwarder.take.Goals as goal

pub returns-in-Err-clause-takes : goal.returns-in-Err-clause-takes
returns-in-Err-clause-takes g c = λ facts.
    inr (ap (λ (s : State). record s { ended = Some end.NoMemory }) (c.in-Err.ensures.err facts))
