use Rattle.journal_picture.proofs.Chains.{next}
use Rattle.journal_picture.proofs.legend.put_event_samples.Goals as goal

pub returns : goal.returns
returns g c =
    let s = g.T.TextOut.stands in
    next s (next s (next s (next s (next s (next s c.put_sample.ensures c.put_sample-2.ensures)
    c.put_sample-3.ensures) c.put_sample-4.ensures) c.put_sample-5.ensures)
    c.put_sample-6.ensures) c.put_sample-7.ensures
