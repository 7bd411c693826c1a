use Rattle.forwarder.proofs.Bounds.{exact}
use Rattle.forwarder.proofs.laws.totals_are_exact.Goals as goal

pub returns : goal.returns
returns c = exact
