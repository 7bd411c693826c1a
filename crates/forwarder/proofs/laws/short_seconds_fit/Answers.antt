use Rattle.forwarder.proofs.Bounds.{fits_by}
use Rattle.forwarder.proofs.laws.short_seconds_fit.Goals as goal

pub returns : goal.returns
returns c r = fits_by r.sec
