use Rattle.forwarder.specs.Services.{standing}
use Rattle.forwarder.proofs.Steps.{took_piece}
use Rattle.forwarder.proofs.forwarder.Forwarder.try_take.Goals as goal

pub returns-clause-ok : goal.returns-clause-ok
returns-clause-ok g c = λ facts.
    took_piece (standing c.args.self.now facts) c.args.piece.now _ _ _ _ c.requires.none
    c.in_ok-bytes.ensures.completes c.in_ok-put.ensures.ok
    (let e = c.saturating_add-self.ensures in cc)
