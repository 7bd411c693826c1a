use Rattle.std.proofs.Common.{refl}
use Rattle.proactor.proofs.acceptor.AsynchAcceptor.offer.Goals as goal

pub returns-clause-offers : goal.returns-clause-offers
returns-clause-offers g c = record {
  handler = c.new-handler.result;
  its_end = c.new-handler.ensures.end;
  number = c.new-handler.ensures.number;
  fits = c.new-handler.ensures.fits;
  turns = record { answers = refl; notes = refl; acts = refl };
}
