use Rattle.std.proofs.Common.{[]}
use Rattle.log_handler.proofs.lines.put_record.Goals as goal

pub returns-in-Some : goal.returns-in-Some
returns-in-Some g c = λ since text h.
    rw (← c.in-Some.ensures [] _ (c.put_borrowed_line.ensures [] [] c.new-line.ensures))
    (c.put.ensures since text h)
