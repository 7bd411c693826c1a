use Rattle.forwarder.proofs.Turning.{turned_none}
use Rattle.forwarder.proofs.forwarder.Forwarder.new.Goals as goal

pub returns-clause-turned : goal.returns-clause-turned
returns-clause-turned g c = λ facts fresh.
    rw (c.new.ensures, c.new-2.ensures) (turned_none facts fresh)
