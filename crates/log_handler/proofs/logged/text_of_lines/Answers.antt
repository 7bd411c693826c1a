use Rattle.std.proofs.Common.{[]}
use Rattle.log_handler.proofs.logged.text_of_lines.Goals as goal

pub returns : goal.returns
returns c = rw (← c.iter.ensures) (c.into_bytes.ensures.text _ _
    (c.put_record_lines.ensures _ [] c.new-text.ensures))
