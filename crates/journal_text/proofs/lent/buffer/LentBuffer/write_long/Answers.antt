use Rattle.journal_text.proofs.Gathering.{wrote_more, loses_more}
use Rattle.std.proofs.Common.{refl}
use Rattle.journal_text.proofs.lent.buffer.LentBuffer.write_long.Goals as goal

pub returns-then-self-clause-text : goal.returns-then-self-clause-text
returns-then-self-clause-text g c =
    λ start put h. loses_more g.K.Sink.facts start c.args.self.now put c.args.bytes.now
    c.if-self.true h

pub returns-clause-text : goal.returns-clause-text
returns-clause-text g c = λ start put h.
    wrote_more g.K.Sink.facts start c.args.self.now _ put c.args.bytes.now c.write_all-done.result
    c.if-self.false c.write_all-done.ensures.writes c.requires c.requires refl h
