use Rattle.std.proofs.Common.{[]}
use Rattle.cmd_pool.proofs.making.line_in.Goals as goal

pub returns : goal.returns
returns c = rw (← c.borrowed.ensures) (c.into_bytes.ensures.text _ _
    (c.put_borrowed_line.ensures _ [] c.new-text.ensures))
