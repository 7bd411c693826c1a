use Rattle.std.proofs.Common.{map}
use Rattle.cdr_record.specs.Borrowed.{owned}
use Rattle.log_lines.specs.Texts.{record_lines}
use Rattle.line_sink.specs.sink_buffer.specs.Texts.{Puts}
use Rattle.log_handler.proofs.lines.put_each.Given as goal

-- the lines of the records so far
abbrev pub invariant-loop-entry : goal.invariant-loop-entry
invariant-loop-entry g l = Puts g.T.TextOut.stands l.fn.out
    (record_lines l.conn (map owned l.yielded)) l.out
