use Rattle.std.proofs.Common.{[]}
use Rattle.sink_buffer.specs.Gathers.{Told}
use Rattle.run_summary.specs.Summaries.{summary_text}
use Rattle.run_summary.proofs.summary.Summary.write.Goals as goal

pub returns : goal.returns
returns g c =
    let o = g.K.Sink.facts c.args.output in
    let put = c.put_line-4.ensures (Told o) _
    (c.put_line-3.ensures (Told o) _ (c.put_line-2.ensures (Told o) _
    (c.put_line.ensures (Told o) [] c.new-text.ensures.text))) in
    c.finish.ensures o (summary_text c.args.self.now) put
