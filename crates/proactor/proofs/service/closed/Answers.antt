use Rattle.std.proofs.Common.{None, refl}
use Rattle.proactor.proofs.service.closed.Goals as goal

pub returns : goal.returns
returns g c = record {
  told = c.handle_close-end.result.1;
  notes = refl;
  its_end = c.handle_close-end.ensures.end;
  number = c.handle_close-end.ensures.number;
  gone = λ t items own h. c.handle_close-end.ensures.gone t None items own h;
}
