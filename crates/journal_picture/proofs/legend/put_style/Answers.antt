use Rattle.journal_picture.proofs.Chains.{next}
use Rattle.journal_picture.proofs.legend.put_style.Goals as goal

pub returns : goal.returns
returns g c =
    let s = g.T.TextOut.stands in
    next s (next s (next s (next s (next s
    (next s (next s (next s (next s c.put.ensures c.put-2.ensures) c.put-3.ensures)
    c.put-4.ensures) c.put-5.ensures) c.put-6.ensures) c.put-7.ensures) c.put-8.ensures)
    c.put-9.ensures) c.put-10.ensures
