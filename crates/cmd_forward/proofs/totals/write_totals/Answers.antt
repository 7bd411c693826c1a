use Rattle.std.proofs.Common.{[]}
use Rattle.sink_buffer.specs.Gathers.{Told}
use Rattle.cmd_forward.specs.Statuses.{totals_text}
use Rattle.cmd_forward.proofs.totals.write_totals.Goals as goal

pub returns : goal.returns
returns g c =
    let o = g.K.Sink.facts c.args.output in
    let put = c.put_line-2.ensures (Told o) _
    (c.put_line.ensures (Told o) [] c.new-text.ensures.text) in
    c.finish.ensures o (totals_text c.args.records c.args.bytes) put
