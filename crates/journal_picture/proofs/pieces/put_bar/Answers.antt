use Rattle.journal_picture.proofs.Chains.{next}
use Rattle.journal_picture.proofs.pieces.put_bar.Goals as goal

pub returns : goal.returns
returns g c =
    let s = g.T.TextOut.stands in
    next s (next s (next s (next s c.put_counted.ensures c.put_counted-2.ensures)
    c.put_counted-3.ensures) c.put_counted-4.ensures) c.put.ensures
