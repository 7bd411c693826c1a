use Rattle.std.proofs.Common.{refl}
use Rattle.acceptor.proofs.Accepting.{with-timer}
use Rattle.acceptor.proofs.acceptor.Acceptor.install.Goals as goal

pub returns-clause-offers : goal.returns-clause-offers
returns-clause-offers g c = record {
  handler = c.new-handler.result;
  answers = refl;
  notes = refl;
  installs = with-timer c.new-handler.result _ _ c.timer-timer.ensures.timer;
  fits = c.new-handler.ensures.fits;
}
