use Rattle.journal_picture.proofs.Chains.{next}
use Rattle.journal_picture.proofs.marks.put_bad_mark.Goals as goal

pub returns : goal.returns
returns g c =
    let s = g.T.TextOut.stands in
    next s (next s (next s (next s c.put_titled.ensures c.put.ensures) c.put_line.ensures)
    c.put_name.ensures) c.put-2.ensures
