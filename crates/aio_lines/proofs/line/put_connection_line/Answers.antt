use Rattle.std.proofs.Common.{subst}
use Rattle.aio_lines.proofs.Texts.{in_parts}
use Rattle.aio_lines.proofs.line.put_connection_line.Goals as goal

pub returns : goal.returns
returns g c = λ since text h. subst (g.T.TextOut.stands since c.put.new.self)
    (in_parts text _ _ _ _ _) (c.put.ensures since _ (c.put_count-3.ensures since _
    (c.put_count-2.ensures since _ (c.put_count.ensures since _
    (c.put_unsigned.ensures since text h)))))
