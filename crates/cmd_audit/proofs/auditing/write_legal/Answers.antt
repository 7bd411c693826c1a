use Rattle.std.proofs.Common.{subst}
use Rattle.sink_buffer.specs.Gathers.{Told}
use Rattle.sink_buffer.specs.Written.{WritesAll}
use Rattle.cmd_audit.specs.Audits.{legal_line}
use Rattle.cmd_audit.proofs.auditing.write_legal.Goals as goal

pub returns-then-whole : goal.returns-then-whole
returns-then-whole g c =
    let o = g.K.Sink.facts c.args.output in
    let put = c.put-2.ensures (Told o) _
    (c.put_unsigned.ensures (Told o) _ (c.put.ensures (Told o) _ c.new-line.ensures.text)) in
    subst (λ whole. WritesAll o (legal_line c.args.entries) whole
    (g.K.Sink.facts c.finish-output.result.0)) c.if-whole.true
    (c.finish-output.ensures o (legal_line c.args.entries) put)

pub returns : goal.returns
returns g c =
    let o = g.K.Sink.facts c.args.output in
    let put = c.put-2.ensures (Told o) _
    (c.put_unsigned.ensures (Told o) _ (c.put.ensures (Told o) _ c.new-line.ensures.text)) in
    subst (λ whole. WritesAll o (legal_line c.args.entries) whole
    (g.K.Sink.facts c.finish-output.result.0)) c.if-whole.false
    (c.finish-output.ensures o (legal_line c.args.entries) put)
