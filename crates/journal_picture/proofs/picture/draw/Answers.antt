use Rattle.std.proofs.Common.{[], subst}
use Rattle.sink_buffer.specs.Gathers.{Told}
use Rattle.sink_buffer.specs.Written.{WritesAll}
use Rattle.journal_picture.specs.Pictures.{picture}
use Rattle.journal_picture.proofs.picture.draw.Goals as goal

pub returns-then-whole : goal.returns-then-whole
returns-then-whole g c =
    let o = g.K.Sink.facts c.args.output in
    let text = picture c.args.journal.now c.args.bad in
    subst (λ whole. WritesAll o text whole (g.K.Sink.facts c.finish-output.result.0))
    c.if-whole.true (c.finish-output.ensures o text
    (c.put_picture.ensures (Told o) [] c.new-text.ensures.text))

pub returns : goal.returns
returns g c =
    let o = g.K.Sink.facts c.args.output in
    let text = picture c.args.journal.now c.args.bad in
    subst (λ whole. WritesAll o text whole (g.K.Sink.facts c.finish-output.result.0))
    c.if-whole.false (c.finish-output.ensures o text
    (c.put_picture.ensures (Told o) [] c.new-text.ensures.text))
