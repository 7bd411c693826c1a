use Rattle.std.proofs.Common.{ℕ, subst}
use Rattle.sink_buffer.specs.Texts.{Puts}
use Rattle.journal_picture.specs.Layouts.{width}
use Rattle.journal_picture.specs.Headers.{begin}
use Rattle.journal_picture.proofs.Chains.{next}
use Rattle.journal_picture.proofs.header.put_header.Goals as goal

pub returns : goal.returns
returns g c =
    let s = g.T.TextOut.stands in
    let layout = c.args.layout in
    let sized = subst (λ (high : ℕ). Puts s c.args.out.now (begin (width layout) high)
    c.put_begin.new.out) c.height.ensures
    (subst (λ (wide : ℕ). Puts s c.args.out.now (begin wide c.height.result) c.put_begin.new.out)
    c.width.ensures c.put_begin.ensures) in
    next s (next s (next s (next s (next s sized c.put_legend.ensures) c.put.ensures)
    c.put-2.ensures) c.put-3.ensures) c.put_axis.ensures
