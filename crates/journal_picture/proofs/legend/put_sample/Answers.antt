use Rattle.journal_picture.proofs.Chains.{next}
use Rattle.journal_picture.proofs.legend.put_sample.Goals as goal

pub returns : goal.returns
returns g c =
    let s = g.T.TextOut.stands in
    next s (next s (next s (next s (next s
    (next s (next s (next s c.put.ensures c.put-2.ensures) c.put-3.ensures) c.put_shape.ensures)
    c.put_counted.ensures) c.put_counted-2.ensures) c.put-4.ensures) c.put-5.ensures)
    c.put-6.ensures
