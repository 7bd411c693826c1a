use Rattle.sink_buffer.specs.Gathers.{Told}
use Rattle.laws_script_runs.specs.Connections.{lines_by_connection}
use Rattle.grouped_lines.proofs.grouping.write_given_by_connection.Goals as goal

pub returns-in-Ok-clause-ok : goal.returns-in-Ok-clause-ok
returns-in-Ok-clause-ok g c =
    let o = g.K.Sink.facts c.args.output in
    c.finish-output.ensures o (lines_by_connection c.args.entries.now)
    (c.in-Ok.ensures.ok (Told o) _ c.new-lines.ensures.text)
