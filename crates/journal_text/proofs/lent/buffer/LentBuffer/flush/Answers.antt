use Rattle.std.proofs.Common.{refl}
use Rattle.journal_text.proofs.Gathering.{wrote_held}
use Rattle.journal_text.proofs.lent.buffer.LentBuffer.flush.Goals as goal

pub returns-clause-text : goal.returns-clause-text
returns-clause-text g c = λ start put h.
    wrote_held g.K.Sink.facts start c.args.self.now _ put c.write_all-done.result c.if-self.false
    (rw c.as_slice.ensures at c.write_all-done.ensures.writes) c.clear-2.ensures.held refl h
